-- A trial that came through has come to the place behind the numbers that were tried: each moved it on by its shortest form.
use Prim.Native.Nat.{ℕ, suc, ◌^◌, ◌≤◌, ◌<◌}
use mathlib.Core.Path.{◌≡◌, ap}
use mathlib.Core.List.{List, [], ◌∷◌, ◌++◌, append_assoc}
use native.Mathlib.Omega.{arith}
use lib.ListN.{length}
use Rattle.std.specs.Prelude.{Ok}
use Rattle.refusals.specs.Numbers.{bad_execution, bad_parent}
use Rattle.sets.specs.Members.{members}
use Rattle.sets.specs.Size.{size}
use Rattle.sets.proofs.Sizes.{length-members}
use Rattle.sets.proofs.Below.{size-grows}
use Rattle.tables.specs.Limits.{count_max, execution_max}
use Rattle.numbers.specs.Number.{record_more}
use Rattle.numbers.proofs.Written.{written-length, word_number}
use Rattle.writers.specs.Record.{numbers_written, node_numbers}
use Rattle.writers.specs.Inner.Trial.{Trial, tried, parents_tried, node_tried}
use Rattle.writers.proofs.Cases.{tried-passed, parents-passed}
use Rattle.writers.proofs.Putting.{members-size}

-- where it came through, it stands behind these numbers
abbrev pub Stood : Trial → List ℕ → Type 0
Stood r vs = (place : ℕ) → r ≡ Ok place → place ≡ length (numbers_written vs)

module _ (r : Trial) (vs : List ℕ) (s : Stood r vs) where
  pub stood-number : (broken low high v : ℕ) → high < 128 ^ suc record_more → Stood (tried broken low high v r) (vs ++ v ∷ [])
  stood-number broken low high v h next e =
      let f = tried-passed broken low high v r next e in
      omega (arith, f.next-is, s f.place f.came, written-length record_more vs (v ∷ []), ap (length {A = ℕ}) (word_number record_more v (omega (arith, f.most)) (omega arith)))

  pub stood-parents : (n w : ℕ) → n ≤ count_max → Stood (parents_tried n w r) (vs ++ members count_max w)
  stood-parents n w h next e =
      let f = parents-passed n w r next e in
      omega (arith, f.next-is, s f.place f.came, f.all, size-grows n count_max w h, written-length record_more vs (members count_max w), members-size w)

pub stood-node : (r : Trial) (vs : List ℕ) → Stood r vs → (least n e w : ℕ) → n ≤ count_max → Stood (node_tried least n e w r) (vs ++ node_numbers e w)
stood-node r vs s least n e w h =
    let one = stood-number r vs s bad_execution least execution_max e (omega arith) in
    let two = stood-number _ _ one bad_parent 0 n (size w) (omega arith) in
    let three = stood-parents _ _ two n w h in
    rw (length-members count_max w) (rw (append_assoc (vs ++ e ∷ []) (size w ∷ []) (members count_max w), append_assoc vs (e ∷ []) (size w ∷ members count_max w)) at three)

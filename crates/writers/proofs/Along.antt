-- What a number in range keeps, when it is put before others, holds of a set's members before others: they are below the count, and each is above the
-- one before it.
use Prim.Native.Nat.{ℕ, zero, suc, ◌+◌, ◌*◌, ◌^◌, ◌≤◌, ◌<◌}
use mathlib.Core.Path.{◌≡◌, ap, ◌∙◌}
use mathlib.Core.Logic.{⊎_elim}
use mathlib.Core.List.{List, [], ◌∷◌, ◌++◌, append_assoc, append-nil}
use native.Mathlib.Nat.{add-zero, one-mul, zero-mul}
use native.Mathlib.Omega.{arith}
use lib.ListN.{length, length-append}
use Rattle.sets.specs.Member.{bit, Member}
use Rattle.sets.specs.Members.{members}
use Rattle.sets.specs.Rule.{set_of}
use Rattle.sets.proofs.Bits.{mem-or}
use Rattle.tables.specs.declared.TaskTable.{TaskTable}
use Rattle.tables.specs.Limits.{count_max}
use Rattle.numbers.specs.Number.{record_more}
use Rattle.numbers.specs.Shortest.{shortest}
use Rattle.numbers.proofs.Shortest.{shortest-last}
use Rattle.records.specs.Expected.{Due, range, Next, parent_from, after}
use Rattle.records.specs.Expected.Next.{number}

-- the digits of a word
abbrev pub digits : ℕ → ℕ → ℕ
digits w k = bit k w

-- R is kept by a number in range: it holds before the number, where it holds after it, at the place after its shortest form
abbrev pub Keeps : (Next → ℕ → List ℕ → Type 0) → Type 0
Keeps R = (due : Due) (v place : ℕ) (vs : List ℕ) → (range due).low ≤ v → v ≤ (range due).high →
    R (after due v) (place + length (shortest record_more v)) vs → R (number due) place (v ∷ vs)

module _ (R : Next → ℕ → List ℕ → Type 0) (kept : Keeps R) (T : TaskTable) (i e w : ℕ) where
  -- the members of w below d, and then what comes after them
  pub along-members : (d left place : ℕ) (ws : List ℕ) → d ≤ count_max → ((k : ℕ) → k < d → Member k w → k < T.count) →
      ((low : ℕ) → low ≤ d → R (parent_from T i e left low (set_of d (digits w))) (place + length (members d w)) ws) →
      R (parent_from T i e (length (members d w) + left) 0 0) place (members d w ++ ws)
  unfolding members set_of
  along-members zero left place ws l h x = let q : 0 + left ≡ left = omega arith in rw q (rw (add-zero place) at (x 0 (omega arith)))
  along-members (suc d) left place ws l h x = ⊎_elim
      (λ (m : bit d w ≡ 1).
      let s : set_of d (digits w) + 1 * 2 ^ d ≡ set_of d (digits w) + 2 ^ d = ap (λ (y : ℕ). set_of d (digits w) + y) (one-mul (2 ^ d)) in
      let q : length (members d w ++ d ∷ []) + left ≡ length (members d w) + suc left = omega (arith, length-append (members d w) (d ∷ [])) in
      let p : place + length (members d w ++ d ∷ []) ≡ place + length (members d w) + length (shortest record_more d) =
      omega (arith, length-append (members d w) (d ∷ []), ap (length {A = ℕ}) (shortest-last record_more d (omega arith))) in
      rw (m, q, append_assoc (members d w) (d ∷ []) ws)
      (along-members d (suc left) place (d ∷ ws) (omega arith) (λ k b. h k (omega arith)) λ low b.
      kept _ d _ ws b (omega (arith, h d (omega arith) m)) (rw (m, s, p) at (x (d + 1) (omega arith)))))
      (λ (z : bit d w ≡ 0).
      let s : set_of d (digits w) + 0 * 2 ^ d ≡ set_of d (digits w) = ap (λ (y : ℕ). set_of d (digits w) + y) (zero-mul (2 ^ d)) ∙ add-zero (set_of d (digits w)) in
      rw (z, append-nil (members d w))
      (along-members d left place ws (omega arith) (λ k b. h k (omega arith)) λ low b. rw (z, s, append-nil (members d w)) at (x low (omega arith))))
      (mem-or d w)

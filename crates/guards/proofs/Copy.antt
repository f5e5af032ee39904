-- A plan copied over the first words: those passed are the plan's and the others stay, so that a whole plan copied is a plan written.
use mathlib.Core.Path.{◌≡◌, refl, ap}
use mathlib.Core.List.{List, [], ◌∷◌, ◌++◌}
use Prim.Native.Nat.{ℕ, zero, suc, ◌+◌, ◌<◌}
use native.Mathlib.Nat.{le_of_suc-le-suc, not-suc-le-zero}
use native.Mathlib.Numerals.{add-one}
use lib.ListN.{length, take, drop, set, get_or}
use lib.Seq.{take_at}
use Rattle.tables.specs.declared.TaskTable.{TaskTable}
use Rattle.plans.specs.Diagram.{segment_count}
use Rattle.plans.specs.Words.{word_count, front_words, node_words, written}
use Rattle.plans.proofs.Read.{length-plan}

-- one word more
copy-next : (plan words : List ℕ) (i : ℕ) → i < length plan → i < length words → set (take i plan ++ drop i words) i (get_or plan i 0) ≡ take (suc i) plan ++ drop (suc i) words
copy-next [] words i l m = absurd (not-suc-le-zero l)
copy-next (p ∷ ps) [] i l m = absurd (not-suc-le-zero m)
copy-next (p ∷ ps) (w ∷ ws) zero l m = refl
copy-next (p ∷ ps) (w ∷ ws) (suc i) l m = ap (λ (ns : List ℕ). p ∷ ns) (copy-next ps ws i (le_of_suc-le-suc l) (le_of_suc-le-suc m))

pub copy_more : (plan words : List ℕ) (i : ℕ) → i < length plan → i < length words → set (take i plan ++ drop i words) i (get_or plan i 0) ≡ take (i + 1) plan ++ drop (i + 1) words
copy_more plan words i l m = rw add-one (copy-next plan words i l m)

-- all words of a plan
pub plan-copied : (t : TaskTable) (old words : List ℕ) → (let n = word_count (segment_count t) t.count in take n (written t old) ++ drop n words ≡ written t words)
plan-copied t old words =
    let n = word_count (segment_count t) t.count in
    ap (λ (p : List ℕ). p ++ drop n words) (take_at (front_words t ++ node_words t) (drop n old) n (length-plan t words))

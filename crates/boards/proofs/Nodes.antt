-- A task's nodes as one list: there are as many as the task has, and what each is rounded up to adds up to the task's sum and largest, because
-- the list, the sum and the largest all grow by one node at a time.
use mathlib.Core.Path.{◌≡◌, refl, ◌∙◌}
use mathlib.Core.List.{[], ◌∷◌}
use Prim.Native.Nat.{ℕ, zero, suc, ◌<◌}
use native.Mathlib.Nat.{le_refl}
use native.Mathlib.Omega.{arith}
use lib.ListN.{length, length-append}
use Rattle.plain.specs.Sums.{sum_to, max_to}
use Rattle.boards.specs.Fractions.{Fraction}
use Rattle.boards.specs.Nodes.{listed}
use Rattle.boards.proofs.Fractions.{RoundedUp, Rounded, rounded-as, rounded-append}
use Rattle.boards.proofs.Fractions.Rounded.{none, more}

-- how many there are
pub length-listed : (n : ℕ) (x : ℕ → Fraction) → length (listed n x) ≡ n
unfolding listed
length-listed zero x = refl
length-listed (suc n) x = length-append (listed n x) (x n ∷ []) ∙ (let ih = length-listed n x in omega arith)

-- what they are rounded up to
pub rounded-listed : (n : ℕ) (x : ℕ → Fraction) (r : ℕ → ℕ) → ((v : ℕ) → v < n → RoundedUp (x v) (r v)) → Rounded (listed n x) (sum_to n r) (max_to n r)
unfolding listed sum_to max_to
rounded-listed zero x r u = none
rounded-listed (suc n) x r u = rounded-as (rounded-append (rounded-listed n x r (λ v h. u v (omega arith))) (more (u n (le_refl (suc n))) none)) (omega arith) (omega arith)

-- A node's density beside its unrounded one. A node that runs has time to, so that its fraction is proper, and the division rounds it up; a
-- join's fraction is 0 over 1, and its density 0.
use mathlib.Core.Path.{◌≡◌, refl}
use mathlib.Core.Bool.{Bool, true, false}
use mathlib.Core.Logic.{⊎_elim}
use Prim.Native.Nat.{ℕ, ◌*◌, ◌≤◌, ◌<◌}
use native.Mathlib.Omega.{arith}
use lib.Dec.{eqb}
use borrow.Author.Tests.{eqb-true, eqb-false}
use Rattle.plain.specs.Pick.{pick}
use Rattle.plain.proofs.Lists.{lt-or-ge}
use Rattle.shares.specs.Density.{millionths}
use Rattle.shares.proofs.Densities as densities
use Rattle.boards.specs.Fractions.{Fraction, whole, exact_density}
use Rattle.boards.proofs.Fractions.{RoundedUp}
use Rattle.claims.specs.Plan.{NotBelow}

-- r is x in millionths, rounded up, and no less is enough
pub record Least (x : Fraction) (r : ℕ) : Type 0 where
  pub rounded : RoundedUp x r
  pub least : (s : ℕ) → NotBelow s x → r ≤ s

-- a density, by whether its node runs
pub rounds : (x q n : ℕ) → (1 ≤ x → 0 < n) → Least (exact_density x q n) (millionths x q n)
rounds x q n time = by (eqb x 0) refl
  where
    by : (b : Bool) → eqb x 0 ≡ b → Least (pick b (whole 0) (record { upper = x * q; lower = n })) (millionths x q n)
    by true e =
        let none : millionths x q n ≡ 0 = rw (eqb-true x 0 e) (densities.idle q n) in
        record { rounded = record { proper = omega arith; enough = omega arith; near = omega arith }; least = λ s l. omega arith }
    by false e =
        let some : 0 < n = ⊎_elim time (λ (z : x ≤ 0). absurd (eqb-false x 0 e (omega arith))) (lt-or-ge 0 x) in
        record {
          rounded = record { proper = some; enough = densities.enough x q n some; near = omega (arith, densities.near x q n) };
          least = densities.least x q n;
        }

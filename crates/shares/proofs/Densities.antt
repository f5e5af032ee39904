-- A density is the least number of millionths that is enough: the quotient of a ceiling division, times the numerator, reaches the amount
-- and passes it by less than one numerator. Where the numerator is 0 nothing is executed.
use mathlib.Core.Path.{◌≡◌}
use Prim.Native.Nat.{ℕ, zero, suc, ◌+◌, ◌*◌, ◌-◌, ◌/◌, ◌≤◌, ◌<◌}
use native.Mathlib.Nat.{mul-pos, lt-div-mul-add, div-mul-le_self, lt_of_mul-lt-mul_right, le_of_mul-le-mul_right, le_antisymm}
use native.Mathlib.Omega.{arith}
use borrow.Author.Tests.{ne_eqb}
use Rattle.tables.specs.Limits.{million, density_max}
use Rattle.shares.specs.Density.{millionths}
use Rattle.shares.proofs.Products.{sort}

-- a numerator of 0, and one that divides
pub undivided : (execution over numerator : ℕ) → numerator ≡ 0 → millionths execution over numerator ≡ 0
unfolding millionths
undivided execution over numerator e = rw e

pub divided : (execution over numerator : ℕ) → (numerator ≡ 0 → ⊥) → millionths execution over numerator ≡ (execution * over * million + (numerator - 1)) / numerator
unfolding millionths
divided execution over numerator n = rw (ne_eqb numerator 0 n)

-- a quotient of u + (l − 1) by l is at most any r that is enough for u
quotient-least : (q r u l : ℕ) → 0 < l → q * l ≤ u + (l - 1) → u ≤ r * l → q ≤ r
quotient-least q r u l p h b = let s : q * l < (r + 1) * l = simp sort (omega arith) in omega (arith, lt_of_mul-lt-mul_right l s)

-- it is the least that is enough, for any numerator
pub least : (execution over numerator r : ℕ) → execution * over * million ≤ r * numerator → millionths execution over numerator ≤ r
unfolding millionths
least execution over zero r h = omega arith
least execution over (suc k) r h = rw (divided execution over (suc k) (λ q. omega arith)) (quotient-least ((execution * over * million + (suc k - 1)) / suc k) r (execution * over * million) (suc k) (omega arith) (div-mul-le_self (execution * over * million + (suc k - 1)) (suc k)) h)

-- it is enough, and by less than one millionth too much
pub enough : (execution over numerator : ℕ) → 0 < numerator → execution * over * million ≤ millionths execution over numerator * numerator
enough execution over numerator p =
    rw (divided execution over numerator (λ q. omega arith)) (omega (arith, lt-div-mul-add {a = execution * over * million + (numerator - 1)} {b = numerator} p))

pub near : (execution over numerator : ℕ) → millionths execution over numerator * numerator ≤ execution * over * million + (numerator - 1)
unfolding millionths
near execution over zero = omega arith
near execution over (suc k) = rw (divided execution over (suc k) (λ q. omega arith)) (div-mul-le_self (execution * over * million + (suc k - 1)) (suc k))

-- 0 for no execution, whatever the numerator; above 0 for some; at most two for at least half; two for just half
pub idle : (over numerator : ℕ) → millionths 0 over numerator ≡ 0
idle over numerator = omega (arith, least 0 over numerator 0 (omega arith))

pub density-low : (execution over numerator : ℕ) → 0 < execution → 0 < over → 0 < numerator → 1 ≤ millionths execution over numerator
density-low execution over numerator p q r =
    let a = mul-pos p q in
    let b = enough execution over numerator r in
    above (millionths execution over numerator) numerator (omega arith)
  where
    above : (x n : ℕ) → 0 < x * n → 1 ≤ x
    above zero n h = omega arith
    above (suc x) n h = omega arith

pub density-high : (execution over numerator : ℕ) → execution * over ≤ 2 * numerator → millionths execution over numerator ≤ density_max
density-high execution over numerator h = least execution over numerator density_max (omega arith)

pub half-doubles : (execution over numerator : ℕ) → 0 < execution * over → 2 * numerator ≡ execution * over → millionths execution over numerator ≡ density_max
half-doubles execution over numerator p e = le_antisymm
    (density-high execution over numerator (omega arith))
    (le_of_mul-le-mul_right {k = numerator} (omega (arith, enough execution over numerator (omega arith))) (omega arith))

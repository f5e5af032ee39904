-- Products of plain numbers: both sides are multiplied out and sorted, and what is left is linear in the products that are named.
use mathlib.Core.Path.{◌≡◌, ap}
use Prim.Native.Nat.{ℕ, ◌+◌, ◌*◌, ◌≤◌}
use native.Mathlib.Nat.{mul_assoc, mul_comm, mul_left_comm, mul-add, add-mul, mul-le-mul_left, mul-le-mul_right}
use native.Mathlib.Omega.{arith}

pub ruleset sort = (mul-add, add-mul, mul_assoc, mul_comm, mul_left_comm)

-- a rate R per unit of work that lifts m threads to X gives a segment of length e at least e × X
pub lifts : (R m e X : ℕ) → X ≤ m * R → e * X ≤ R * m * e
lifts R m e X h = simp sort (simp sort at (mul-le-mul_left e h))

-- where m threads at rate X are within C, so are they over e × Y
pub within : (C m e X Y : ℕ) → m * X ≤ C → m * e * X * Y ≤ C * (e * Y)
within C m e X Y h = simp sort (simp sort at (mul-le-mul_right (e * Y) h))

-- what the two kinds get together: E is 2T − L
pub shared-out : (T L E H : ℕ) → E + L ≡ 2 * T → H * E + L * H ≡ T * (2 * H)
shared-out T L E H l = let p : H * (E + L) ≡ H * (2 * T) = ap (λ (n : ℕ). H * n) l in simp sort (omega (arith, simp sort at p))

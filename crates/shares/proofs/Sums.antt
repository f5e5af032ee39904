-- Sums by index that leave terms out: a smaller term adds less.
use Prim.Native.Nat.{ℕ, ◌+◌, ◌≤◌, ◌<◌}
use native.Mathlib.Omega.{arith}
use Rattle.plain.specs.Sums.{sum_to}
use Rattle.plain.proofs.Sums.{sum_mono, sum-under}

-- what a loop has summed of smaller terms, with the next whole term, is at most the whole sum
pub part-under : (f x : ℕ → ℕ) → ((k : ℕ) → x k ≤ f k) → (j s : ℕ) → j < s → sum_to j x + f j ≤ sum_to s f
part-under f x le j s h = omega (arith, sum_mono j x f (λ k l. le k), sum-under f j s h)

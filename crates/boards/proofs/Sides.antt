-- Both sides of a verdict's inequality fit a word: each figure of a sound board is bounded by the limits, and so is each product by a number of cores.
use Prim.Native.Nat.{ℕ, ◌+◌, ◌*◌, ◌^◌, ◌≤◌, ◌<◌}
use native.Mathlib.Nat.{mul-le-mul, lt_of_le_of_lt}
use native.Mathlib.Omega.{arith}
use lib.Dec.{lit<}
use Rattle.tables.specs.Limits.{count_max, density_max}
use Rattle.boards.specs.Row.{rows_max}
use Rattle.boards.specs.Verdict.{cores_max}

-- so many cores times a density
pub density-fits : (n l : ℕ) → n ≤ cores_max → l ≤ density_max → n * l < 2 ^ 64
density-fits n l h k = lt_of_le_of_lt (mul-le-mul h k) (lit< tt)

-- and a sum with it
pub left-fits : (s n l : ℕ) → s ≤ rows_max * (count_max * density_max) → n ≤ cores_max → l ≤ density_max → s + n * l < 2 ^ 64
left-fits s n l h k m = omega (arith, mul-le-mul k m)

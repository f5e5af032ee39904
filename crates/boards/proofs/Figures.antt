-- A task's row is a standing one: its largest density is one of its densities and its sum adds them all, so that the sum lies between the largest
-- and as many times the largest as there are nodes.
use Prim.Native.Nat.{ℕ, zero, suc, ◌*◌, ◌≤◌, ◌<◌, zero-le}
use native.Mathlib.Nat.{le_trans}
use native.Mathlib.Omega.{arith}
use Rattle.plain.specs.Sums.{sum_to, max_to}
use Rattle.plain.proofs.Sums.{sum_to-le, max_to-le, le-max_to}
use Rattle.tables.specs.Limits.{id_max, period_max, count_max, run_max, over_max, density_max}
use Rattle.boards.specs.Row.{task_row}
use Rattle.boards.specs.Sound.{Standing}

-- the greatest of some numbers is at most their sum
pub max-le-sum : (n : ℕ) (f : ℕ → ℕ) → max_to n f ≤ sum_to n f
unfolding max_to sum_to
max-le-sum zero f = zero-le
max-le-sum (suc n) f = let ih = max-le-sum n f in omega arith

-- a task in its ranges, with densities in theirs and one above 0, and with times in theirs
pub record InRanges (id n : ℕ) (density : ℕ → ℕ) (longest shortest over : ℕ) : Type 0 where
  pub id-low : 1 ≤ id
  pub id-high : id ≤ id_max
  pub nodes-high : n ≤ count_max
  pub some : (v : ℕ) × (v < n) × (1 ≤ density v)
  pub density-high : (v : ℕ) → v < n → density v ≤ density_max
  pub longest-low : 1 ≤ longest
  pub longest-high : longest ≤ run_max
  pub over-low : 1 ≤ over
  pub over-high : over ≤ over_max
  pub over-half : over ≤ 2 * shortest
  pub shortest-high : shortest ≤ period_max * over

pub task_row-standing : {id n : ℕ} {density : ℕ → ℕ} {longest shortest over : ℕ} → InRanges id n density longest shortest over → Standing (task_row id n density longest shortest over)
task_row-standing {id} {n} {density} r = record {
  id-low = r.id-low;
  id-high = r.id-high;
  nodes-low = let l = r.some.1 in omega arith;
  nodes-high = r.nodes-high;
  largest-low = le_trans r.some.2 (le-max_to n density r.some.0 r.some.1);
  largest-high = max_to-le n density_max density r.density-high;
  sum_low = max-le-sum n density;
  sum-high = sum_to-le n (max_to n density) density (le-max_to n density);
  longest-low = r.longest-low;
  longest-high = r.longest-high;
  over-low = r.over-low;
  over-high = r.over-high;
  over-half = r.over-half;
  shortest-high = r.shortest-high;
}

-- How large counts are, so that every sum fits.
use Rattle.std.specs.Prelude.{ℕ, ◌*◌, ◌≤◌}
use Rattle.plain.specs.At.{at}
use Rattle.tables.specs.Limits.{count_max, work_max}
use Rattle.buildings.specs.declared.Sums.{Sums}
use Rattle.buildings.specs.declared.Counts.{Counts}

-- the counts of n records
pub record Sized (n : ℕ) (c : Counts) : Type 0 where
  pub records : c.records ≤ n
  pub accepted : c.accepted ≤ n
  pub refused : (k : ℕ) → at c.refused k ≤ n
  pub nodes : c.nodes ≤ n * count_max
  pub segments : c.segments ≤ n * count_max
  pub work : c.work ≤ n * work_max
  pub heavy : c.heavy ≤ n * count_max
  pub light : c.light ≤ n * count_max
  pub dense : c.dense ≤ n

-- what one record adds
pub record Low (s : Sums) : Type 0 where
  pub nodes : s.nodes ≤ count_max
  pub segments : s.segments ≤ count_max
  pub work : s.work ≤ work_max
  pub heavy : s.heavy ≤ count_max
  pub light : s.light ≤ count_max
  pub dense : s.dense ≤ 1

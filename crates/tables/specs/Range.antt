-- What a table read from a record keeps to.
use Rattle.std.specs.Prelude.{◌≡◌, ℕ, ◌^◌, ◌≤◌, ◌<◌}
use Rattle.plain.specs.At.{at}
use Rattle.tables.specs.declared.TaskTable.{TaskTable}
use Rattle.tables.specs.Limits.{edition_max, id_max, period_max, count_max, execution_max, least_execution}
use Rattle.tables.specs.Runs.{SomeRuns}

-- the ranges of "The task record", by its edition; not "all executions are 0"; "Entries past the node count are 0"; a parent set holds only
-- nodes below the count
pub record InRange (t : TaskTable) : Type 0 where
  pub edition-low : 1 ≤ t.edition
  pub edition-high : t.edition ≤ edition_max
  pub id-low : 1 ≤ t.id
  pub id-high : t.id ≤ id_max
  pub period-low : 1 ≤ t.period
  pub period-high : t.period ≤ period_max
  pub count_low : 1 ≤ t.count
  pub count-high : t.count ≤ count_max
  pub execution-low : (v : ℕ) → v < t.count → least_execution t.edition ≤ at t.execution v
  pub execution-high : (v : ℕ) → at t.execution v ≤ execution_max
  pub execution-past : (v : ℕ) → t.count ≤ v → at t.execution v ≡ 0
  pub some_runs : SomeRuns t
  pub parents-below : (v : ℕ) → at t.parents v < 2 ^ t.count
  pub parents-past : (v : ℕ) → t.count ≤ v → at t.parents v ≡ 0

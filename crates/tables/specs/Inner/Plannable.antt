-- What planning asks of a table. A reader's table with a cost has it by one law, whatever ranges its record has.
use Rattle.std.specs.Prelude.{◌≡◌, ℕ, ◌^◌, ◌≤◌, ◌<◌}
use Rattle.plain.specs.At.{at}
use Rattle.tables.specs.declared.TaskTable.{TaskTable}
use Rattle.tables.specs.Limits.{id_max, period_max, count_max, run_max}
use Rattle.tables.specs.Runs.{SomeRuns}

-- some node runs, none for longer than `run_max`; a parent set holds only nodes below the count, and entries past the count are 0
pub record Plannable (t : TaskTable) : Type 0 where
  pub id-low : 1 ≤ t.id
  pub id-high : t.id ≤ id_max
  pub period-high : t.period ≤ period_max
  pub count-high : t.count ≤ count_max
  pub some_runs : SomeRuns t
  pub run-high : (v : ℕ) → at t.execution v ≤ run_max
  pub run_past : (v : ℕ) → t.count ≤ v → at t.execution v ≡ 0
  pub parents-below : (v : ℕ) → at t.parents v < 2 ^ t.count
  pub parents-past : (v : ℕ) → t.count ≤ v → at t.parents v ≡ 0

-- What the functions ask of a table that they write a plan for.
use Rattle.std.specs.Prelude.{◌≡◌, false, ◌≤◌}
use Rattle.tables.specs.declared.TaskTable.{TaskTable}
use Rattle.tables.specs.Inner.Plannable.{Plannable}
use Rattle.ways.specs.Closure.{loops}
use Rattle.plans.specs.Diagram.{path}

-- some node runs, no node is reached from itself, and the path is within the period
pub record Planned (t : TaskTable) : Type 0 where
  pub range : Plannable t
  pub free : loops t.parents t.count ≡ false
  pub fits : path t ≤ t.period

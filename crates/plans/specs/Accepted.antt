-- Which tables planning accepts.
use Rattle.std.specs.Prelude.{◌≡◌, false, ◌≤◌}
use Rattle.tables.specs.declared.TaskTable.{TaskTable}
use Rattle.tables.specs.Cost.{CostedRange}
use Rattle.ways.specs.Closure.{loops}
use Rattle.plans.specs.Diagram.{path}

-- in range, with a cost in range; no node reached from itself; the path within the period
pub record Accepted (t : TaskTable) : Type 0 where
  pub range : CostedRange t
  pub free : loops t.parents t.count ≡ false
  pub fits : path t ≤ t.period

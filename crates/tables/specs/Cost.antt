-- The dispatch cost: "the switch at each step's start".
use Rattle.std.specs.Prelude.{◌≡◌, map, ℕ, ◌+◌, ◌≤◌, eqb}
use Rattle.plain.specs.Pick.{pick}
use Rattle.tables.specs.declared.TaskTable.{TaskTable}
use Rattle.tables.specs.Limits.{cost_max}
use Rattle.tables.specs.Range.{InRange}

-- "execution means written plus cost"; "Joins of edition 2 pay nothing"
abbrev pub with_cost : (cost written : ℕ) → ℕ
with_cost cost written = pick (eqb written 0) 0 (written + cost)

-- a table with each execution so, and all else as it is: what "every rule from the path to the density" speaks of
abbrev pub costed : TaskTable → (cost : ℕ) → TaskTable
costed t cost = record {
  edition = t.edition;
  id = t.id;
  period = t.period;
  count = t.count;
  execution = map (with_cost cost) t.execution;
  parents = t.parents;
}

-- t is a table in range, with "a cost of 0..255 units"
pub record CostedRange (t : TaskTable) : Type 0 where
  pub written : TaskTable
  pub cost : ℕ
  pub range : InRange written
  pub cost-high : cost ≤ cost_max
  pub is : t ≡ costed written cost

-- What one record adds to the counts.
use Rattle.std.specs.Prelude.{List, ℕ, ◌+◌, Result, Ok, Err, set}
use Rattle.plain.specs.At.{at}
use Rattle.refusals.specs.declared.Refusal.{Refusal}
use Rattle.tables.specs.declared.TaskTable.{TaskTable}
use Rattle.plans.specs.Diagram.{work, segment_count}
use Rattle.plans.specs.Calls.{on_task}
use Rattle.buildings.specs.declared.Sums.{Sums}
use Rattle.buildings.specs.declared.Counts.{Counts}
use Rattle.buildings.specs.Task.{heavy_in, light_in, dense_in}

-- an accepted task
abbrev pub task_sums : TaskTable → Sums
task_sums t = record { nodes = t.count; segments = segment_count t; work = work t; heavy = heavy_in t; light = light_in t; dense = dense_in t }

-- a record: the refusal of planning it, or what its task adds
unfoldable pub tally_of : List ℕ → (cost : ℕ) → Result Sums Refusal
tally_of bytes cost = on_task Err (λ t. Ok (task_sums t)) bytes cost

-- the counts with one record more
abbrev pub with_tally : Counts → Result Sums Refusal → Counts
with_tally c (Ok s) = record {
  records = c.records + 1;
  accepted = c.accepted + 1;
  refused = c.refused;
  nodes = c.nodes + s.nodes;
  segments = c.segments + s.segments;
  work = c.work + s.work;
  heavy = c.heavy + s.heavy;
  light = c.light + s.light;
  dense = c.dense + s.dense;
}
with_tally c (Err r) = record c { records = c.records + 1; refused = set c.refused r.number (at c.refused r.number + 1) }

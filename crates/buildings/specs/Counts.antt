-- "Each count equals a definition over the list of records".
use Rattle.std.specs.Prelude.{List, ℕ, length, replicate}
use Rattle.plain.specs.At.{tab}
use Rattle.plain.specs.Sums.{total}
use Rattle.plans.specs.Diagram.{work, segment_count}
use Rattle.buildings.specs.declared.Counts.{Counts}
use Rattle.buildings.specs.Task.{of_accepted, refused_by, heavy_in, light_in, dense_in}

-- the refusal numbers run up to 28, and 0 is none
abbrev pub numbers_max : ℕ
numbers_max = 29

-- "records, accepted, refused by number, nodes, segments, total work, heavy and light segments, and the number of tasks with any density above one"
unfoldable pub counts_of : (records : List (List ℕ)) (cost : ℕ) → Counts
counts_of records cost = record {
  records = length records;
  accepted = total (of_accepted (λ t. 1) cost) records;
  refused = tab numbers_max (λ k. total (refused_by k cost) records);
  nodes = total (of_accepted (λ t. t.count) cost) records;
  segments = total (of_accepted segment_count cost) records;
  work = total (of_accepted work cost) records;
  heavy = total (of_accepted heavy_in cost) records;
  light = total (of_accepted light_in cost) records;
  dense = total (of_accepted dense_in cost) records;
}

-- "all counts 0"
abbrev pub no_counts : Counts
no_counts = record { records = 0; accepted = 0; refused = replicate numbers_max 0; nodes = 0; segments = 0; work = 0; heavy = 0; light = 0; dense = 0 }

-- The timing diagram and the segments of a table: "Timing diagram and segments".
use Rattle.std.specs.Prelude.{ℕ}
use Rattle.plain.specs.At.{at}
use Rattle.tables.specs.declared.TaskTable.{TaskTable}
use Rattle.ways.specs.Ways.{begins, ends}
use Rattle.ways.specs.Totals.{work_of, longest_of, path_of}
use Rattle.segments.specs.Cut.{segments, length_of}
use Rattle.segments.specs.Running.{threads}

-- "A node without parents starts at 0; any other starts at the latest finish of its parents"
abbrev pub start : TaskTable → ℕ → ℕ
start t v = at (begins t.parents t.execution t.count) v

-- "Finish is start plus execution"
abbrev pub finish : TaskTable → ℕ → ℕ
finish t v = at (ends t.parents t.execution t.count) v

-- "Work C is the sum of executions"
abbrev pub work : TaskTable → ℕ
work t = work_of t.execution t.count

-- "its longest execution"
abbrev pub longest : TaskTable → ℕ
longest t = longest_of t.execution t.count

-- "path P the latest finish"
abbrev pub path : TaskTable → ℕ
path t = path_of t.parents t.execution t.count

-- the segment count s
abbrev pub segment_count : TaskTable → ℕ
segment_count t = segments t.count (finish t)

-- "m_j threads, the nodes running through all of it"
abbrev pub threads_in : TaskTable → ℕ → ℕ
threads_in t j = threads t.count (start t) (finish t) j

-- "Segment j has length e_j"
abbrev pub length_in : TaskTable → ℕ → ℕ
length_in t j = length_of t.count (finish t) j

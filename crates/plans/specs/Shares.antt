-- What each segment and each node of a table gets of the period: numerators over one whole number Q for the task.
use Rattle.std.specs.Prelude.{ℕ}
use Rattle.plain.specs.At.{at, tab}
use Rattle.tables.specs.declared.TaskTable.{TaskTable}
use Rattle.ways.specs.Ways.{begins}
use Rattle.shares.specs.declared.Deal.{Deal}
use Rattle.shares.specs.Deal.{deal, numerator}
use Rattle.shares.specs.Density.{millionths}
use Rattle.shares.specs.Figures.{smallest_to}
use Rattle.segments.specs.Share.{share}
use Rattle.plans.specs.Diagram.{start, finish, work, path, segment_count, threads_in, length_in}

-- how the period is dealt out over this task's segments
abbrev pub deal_of : TaskTable → Deal
deal_of t = deal t.period (work t) (path t) (segment_count t) (threads_in t) (length_in t)

-- Q
abbrev pub over : TaskTable → ℕ
over t = (deal_of t).over

-- segment j's deadline numerator
unfoldable pub numerator_of : TaskTable → ℕ → ℕ
numerator_of t j = numerator (deal_of t) t.period (work t) (path t) (threads_in t j) (length_in t j)

-- "A node's deadline numerator is the sum over the segments it runs in"
unfoldable pub deadline : TaskTable → ℕ → ℕ
deadline t v = share t.count (start t) (finish t) (numerator_of t) v

-- "its smallest deadline numerator", of the nodes that run: a join's is 0, and 0 is none
unfoldable pub shortest : TaskTable → ℕ
shortest t = smallest_to t.count (deadline t)

-- "Its offset is 0 without parents, else the greatest parent's offset plus deadline": the begin of longest ways over deadlines
unfoldable pub offset : TaskTable → ℕ → ℕ
offset t v = at (begins t.parents (tab t.count (deadline t)) t.count) v

-- "A node's density is execution over deadline .. in millionths rounded up"
unfoldable pub density : TaskTable → ℕ → ℕ
density t v = millionths (at t.execution v) (over t) (deadline t v)

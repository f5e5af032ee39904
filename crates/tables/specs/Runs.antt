-- Whether any node of a table runs: "all executions are 0", as a statement and as a test that computes it.
use Rattle.std.specs.Prelude.{◌≡◌, Bool, List, ℕ, ◌≤◌, ◌<◌, eqb}
use Rattle.plain.specs.At.{at}
use Rattle.plain.specs.Sums.{max_to}
use Rattle.tables.specs.declared.TaskTable.{TaskTable}

-- "all executions are 0"
abbrev pub AllZero : TaskTable → Type 0
AllZero t = (v : ℕ) → v < t.count → at t.execution v ≡ 0

-- some execution is above 0
abbrev pub SomeRuns : TaskTable → Type 0
SomeRuns t = (v : ℕ) × (v < t.count) × (1 ≤ at t.execution v)

-- "all executions are 0", of n: the greatest is
unfoldable pub all_zero : (X : List ℕ) (n : ℕ) → Bool
all_zero X n = eqb (max_to n (at X)) 0

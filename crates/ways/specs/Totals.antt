-- Work, longest execution and path of a task.
use Rattle.std.specs.Prelude.{List, ℕ}
use Rattle.plain.specs.At.{at}
use Rattle.plain.specs.Sums.{sum_to, max_to}
use Rattle.ways.specs.Ways.{ends}

-- "Work C is the sum of executions"
unfoldable pub work_of : List ℕ → ℕ → ℕ
work_of X n = sum_to n (at X)

-- "its longest execution"; a join's 0 is never above another
unfoldable pub longest_of : List ℕ → ℕ → ℕ
longest_of X n = max_to n (at X)

-- "path P the latest finish"
unfoldable pub path_of : List ℕ → List ℕ → ℕ → ℕ
path_of P X n = max_to n (at (ends P X n))

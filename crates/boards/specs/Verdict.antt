-- "For m cores the verdict is yes exactly when S + (m − 1) × M ≤ m × 1,000,000."
use Rattle.std.specs.Prelude.{Bool, List, ℕ, ◌+◌, ◌-◌, ◌*◌, leb}
use Rattle.plain.specs.Sums.{sum_to, max_to}
use Rattle.tables.specs.Limits.{million}
use Rattle.boards.specs.declared.Row.{Row}
use Rattle.boards.specs.Row.{rows_max, row_at}

-- "core count is 0 or above 64" is refused
abbrev pub cores_max : ℕ
cores_max = 64

-- "S is the sum over all nodes of all standing tasks"
unfoldable pub sum_of : List Row → ℕ
sum_of rows = sum_to rows_max (λ k. (row_at rows k).sum)

-- "M the largest (both 0 on an empty board)"
unfoldable pub largest_of : List Row → ℕ
largest_of rows = max_to rows_max (λ k. (row_at rows k).largest)

-- "the longest execution .. among all standing nodes"
unfoldable pub longest_of : List Row → ℕ
longest_of rows = max_to rows_max (λ k. (row_at rows k).longest)

-- yes for m cores
abbrev pub verdict : List Row → ℕ → Bool
verdict rows m = leb (sum_of rows + (m - 1) * largest_of rows) (m * million)

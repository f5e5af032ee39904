-- What is told of a board's densities, and what so many cores need for them.
use Rattle.std.specs.Prelude.{◌≡◌, List, ℕ, ◌+◌, ◌-◌, ◌*◌, ◌≤◌}
use Rattle.tables.specs.Limits.{count_max, density_max}
use Rattle.boards.specs.declared.Row.{Row}
use Rattle.boards.specs.declared.loads.Load.{Load}
use Rattle.boards.specs.Row.{rows_max}
use Rattle.boards.specs.Verdict.{sum_of, largest_of}

-- S and M
abbrev pub Tallied : List Row → Load → Type 0
Tallied rows l = (l.sum ≡ sum_of rows) × (l.largest ≡ largest_of rows)

-- S of a sound board is at most
abbrev pub sums_max : ℕ
sums_max = rows_max * (count_max * density_max)

-- S and M of a sound board
pub record Bounded (l : Load) : Type 0 where
  pub sum-high : l.sum ≤ sums_max
  pub largest-high : l.largest ≤ density_max

-- S + (m − 1) × M
abbrev pub left_side : Load → ℕ → ℕ
left_side l m = l.sum + (m - 1) * l.largest

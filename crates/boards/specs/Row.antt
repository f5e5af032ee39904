-- One row of the board: "id, node count, density sum and largest density", and "its longest execution, its smallest deadline numerator and its Q".
use Rattle.std.specs.Prelude.{List, ℕ, get_or}
use Rattle.plain.specs.Sums.{sum_to, max_to}
use Rattle.boards.specs.declared.Row.{Row}

-- "A free row is all zeros"
abbrev pub free_row : Row
free_row = record { id = 0; nodes = 0; sum = 0; largest = 0; longest = 0; shortest = 0; over = 0 }

-- "a lent slice of 16 rows"
abbrev pub rows_max : ℕ
rows_max = 16

-- row number k; a free one past the end
abbrev pub row_at : List Row → ℕ → Row
row_at rows k = get_or rows k free_row

-- the row of a task of n nodes with these densities: "id, node count, density sum and largest density", and with the three figures of its times
abbrev pub task_row : (id n : ℕ) (density : ℕ → ℕ) (longest shortest over : ℕ) → Row
task_row id n density longest shortest over = record {
  id = id;
  nodes = n;
  sum = sum_to n density;
  largest = max_to n density;
  longest = longest;
  shortest = shortest;
  over = over;
}

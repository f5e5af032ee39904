-- What is said of a board's rows.
use Rattle.std.specs.Prelude.{◌≡◌, List, ℕ, ◌<◌}
use Rattle.boards.specs.declared.Row.{Row}
use Rattle.boards.specs.Row.{free_row, row_at}

-- row k has this id
abbrev pub HasId : List Row → ℕ → ℕ → Type 0
HasId rows id k = (row_at rows k).id ≡ id

-- row k is free
abbrev pub IsFree : List Row → ℕ → Type 0
IsFree rows k = row_at rows k ≡ free_row

-- some row of the 16
abbrev pub SomeRow : (ℕ → Type 0) → Type 0
SomeRow holds = (k : ℕ) × (k < 16) × holds k

-- k is the lowest of the 16 rows of which this holds
pub record Lowest (holds : ℕ → Type 0) (k : ℕ) : Type 0 where
  pub within : k < 16
  pub here : holds k
  pub before : (i : ℕ) → i < k → holds i → ⊥

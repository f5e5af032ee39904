-- When a board is sound, as a statement and as a test that computes it.
use Rattle.std.specs.Prelude.{◌≡◌, ◌⊎◌, Bool, true, false, List, ℕ, ◌*◌, ◌≤◌, ◌<◌, eqb, leb, length}
use Rattle.plain.specs.Pick.{pick}
use Rattle.plain.specs.Tests.{both, between, all_to}
use Rattle.tables.specs.Limits.{id_max, period_max, count_max, run_max, over_max, density_max}
use Rattle.boards.specs.declared.Row.{Row}
use Rattle.boards.specs.Row.{free_row, rows_max, row_at}

-- "id 1..65,535, nodes 1..64, largest 1..2,000,000, and largest ≤ sum ≤ nodes × largest"; "the execution is in range, Q lies in 1.." 8,421,120
-- "and is at most twice the numerator, which is at most 16,777,215 × Q"
pub record Standing (r : Row) : Type 0 where
  pub id-low : 1 ≤ r.id
  pub id-high : r.id ≤ id_max
  pub nodes-low : 1 ≤ r.nodes
  pub nodes-high : r.nodes ≤ count_max
  pub largest-low : 1 ≤ r.largest
  pub largest-high : r.largest ≤ density_max
  pub sum_low : r.largest ≤ r.sum
  pub sum-high : r.sum ≤ r.nodes * r.largest
  pub longest-low : 1 ≤ r.longest
  pub longest-high : r.longest ≤ run_max
  pub over-low : 1 ≤ r.over
  pub over-high : r.over ≤ over_max
  pub over-half : r.over ≤ 2 * r.shortest
  pub shortest-high : r.shortest ≤ period_max * r.over

-- "Sound: 16 rows; each is free or has ..; no id twice"
pub record Sound (rows : List Row) : Type 0 where
  pub sixteen : length rows ≡ rows_max
  pub each : (k : ℕ) → k < rows_max → (row_at rows k ≡ free_row) ⊎ Standing (row_at rows k)
  pub once : (i j : ℕ) → i < j → j < rows_max → (row_at rows i).id ≡ (row_at rows j).id → (row_at rows i).id ≡ 0

-- no task and no densities
abbrev pub is_bare : Row → Bool
is_bare r = both (eqb r.id 0) (both (eqb r.nodes 0) (both (eqb r.sum 0) (eqb r.largest 0)))

-- no times: "a free row has them 0"
abbrev pub is_untimed : Row → Bool
is_untimed r = both (eqb r.longest 0) (both (eqb r.shortest 0) (eqb r.over 0))

-- the row is all zeros
abbrev pub is_free : Row → Bool
is_free r = both (is_bare r) (is_untimed r)

-- the ranges of a standing row's id, nodes and densities
abbrev pub is_dense : Row → Bool
is_dense r =
    both (between 1 r.id id_max) (both (between 1 r.nodes count_max)
    (both (between 1 r.largest density_max) (between r.largest r.sum (r.nodes * r.largest))))

-- and of its times: "the execution is in range", Q is, "and is at most twice the numerator, which is at most 16,777,215 × Q"
abbrev pub is_timed : Row → Bool
is_timed r =
    both (between 1 r.longest run_max) (both (between 1 r.over over_max)
    (both (leb r.shortest (period_max * r.over)) (leb r.over (2 * r.shortest))))

-- the ranges of a standing row
abbrev pub is_standing : Row → Bool
is_standing r = both (is_dense r) (is_timed r)

-- "each is free or has .."
unfoldable pub is_sound_row : Row → Bool
is_sound_row r = pick (is_free r) true (is_standing r)

-- "no id twice": id k is no earlier one; a free row's 0 doesn't count
unfoldable pub is_new : (ids : ℕ → ℕ) → ℕ → Bool
is_new ids k = pick (eqb (ids k) 0) true (all_to k (λ i. pick (eqb (ids i) (ids k)) false true))

-- the whole test
unfoldable pub is_sound : List Row → Bool
is_sound rows = both (eqb (length rows) rows_max) (all_to rows_max (λ k. both (is_sound_row (row_at rows k)) (is_new (λ i. (row_at rows i).id) k)))

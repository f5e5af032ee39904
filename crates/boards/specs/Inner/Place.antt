-- Where a task may go, by the row at which its id stands and the lowest free one.
use Rattle.std.specs.Prelude.{ℕ, ltb, Option, Some, None, Result, Ok, Err}
use Rattle.plain.specs.Pick.{pick}
use Rattle.refusals.specs.Numbers.{id_stands, board_full}
use Rattle.refusals.specs.declared.Refusal.{Refusal}
use Rattle.refusals.specs.Refusal.{refusal}
use Rattle.boards.specs.Row.{rows_max}

-- a place that is one of a row
abbrev pub row_place : ℕ → Option ℕ
row_place k = pick (ltb k rows_max) (Some k) None

-- 12, 13, else the free place
abbrev pub told_place : (standing free : Option ℕ) → Result ℕ Refusal
told_place (Some at) free = Err (refusal id_stands 0)
told_place None (Some at) = Ok at
told_place None None = Err (refusal board_full 0)

-- The test of a board in two halves, as the functions make it: ids and densities, and times.
use Rattle.std.specs.Prelude.{Bool, true, List, eqb}
use Rattle.plain.specs.Pick.{pick}
use Rattle.boards.specs.declared.Row.{Row}
use Rattle.boards.specs.Row.{rows_max, row_at}
use Rattle.plain.specs.Tests.{both, all_to}
use Rattle.boards.specs.Sound.{is_bare, is_untimed, is_dense, is_timed, is_new}

-- no task and no densities, or both in their ranges
unfoldable pub densities_fit : Row → Bool
densities_fit r = pick (is_bare r) true (is_dense r)

-- no times where there is no task, else in their ranges
unfoldable pub times_fit : Row → Bool
times_fit r = pick (eqb r.id 0) (is_untimed r) (is_timed r)

-- the first half of every row, and no id twice
abbrev pub densities_sound : List Row → Bool
densities_sound rows = all_to rows_max (λ k. both (densities_fit (row_at rows k)) (is_new (λ i. (row_at rows i).id) k))

-- the second half of every row
abbrev pub times_sound : List Row → Bool
times_sound rows = all_to rows_max (λ k. times_fit (row_at rows k))

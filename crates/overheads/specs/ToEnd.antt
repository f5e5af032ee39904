-- The verdict for steps that run to their end: "yes exactly when S + (m − 1) × M + m × r ≤ m × 1,000,000."
use Rattle.std.specs.Prelude.{Bool, List, ℕ, ◌+◌, ◌-◌, ◌*◌, leb}
use Rattle.refusals.specs.declared.Answer.{Answer}
use Rattle.tables.specs.Limits.{million}
use Rattle.shares.specs.Density.{millionths}
use Rattle.boards.specs.declared.Row.{Row}
use Rattle.boards.specs.Row.{rows_max, row_at}
use Rattle.boards.specs.Fractions.{Fraction, shortest}
use Rattle.boards.specs.Nodes.{listed}
use Rattle.boards.specs.Verdict.{sum_of, largest_of, longest_of}
use Rattle.boards.specs.Change.{asked_by}

-- a task's shortest deadline: "its smallest deadline numerator" over "its Q"
abbrev pub deadline_in : Row → Fraction
deadline_in r = record { upper = r.shortest; lower = r.over }

-- "the shortest deadline among all standing nodes": the least of these fractions; a free row has none
unfoldable pub shortest_of : List Row → Fraction
shortest_of rows = shortest (listed rows_max (λ k. deadline_in (row_at rows k)))

-- r, "the longest execution over the shortest deadline", "in millionths rounded up, 0 on an empty board"
unfoldable pub overhead_of : List Row → ℕ
overhead_of rows = millionths (longest_of rows) (shortest_of rows).lower (shortest_of rows).upper

-- yes for m cores
abbrev pub verdict_to_end : List Row → ℕ → Bool
verdict_to_end rows m = leb (sum_of rows + (m - 1) * largest_of rows + m * overhead_of rows) (m * million)

-- asking for it
abbrev pub asked_to_end : List Row → ℕ → Answer
asked_to_end = asked_by verdict_to_end

-- Longest ways over any weights. With executions as weights begin and end are start and finish: "A node without parents starts at 0; any
-- other starts at the latest finish of its parents. Finish is start plus execution." With deadline numerators as weights begin is the
-- offset: "Its offset is 0 without parents, else the greatest parent's offset plus deadline."
use Rattle.std.specs.Prelude.{List, [], ℕ, zero, suc, ◌+◌}
use Rattle.plain.specs.At.{at, tab}
use Rattle.sets.specs.Greatest.{greatest}

-- begin of v, given ends E: 0 without parents, else the greatest end of its parents
abbrev pub begin_by : List ℕ → ℕ → (ℕ → ℕ) → ℕ → ℕ
begin_by P n E v = greatest n (at P v) E

-- end of v: begin plus weight
abbrev pub end_by : List ℕ → List ℕ → ℕ → (ℕ → ℕ) → ℕ → ℕ
end_by P W n E v = begin_by P n E v + at W v

-- ends after r rounds, each from the ends of the round before: right for a node above which stand fewer than r others
unfoldable pub ends_after : List ℕ → List ℕ → ℕ → ℕ → List ℕ
ends_after P W n zero = []
ends_after P W n (suc r) = tab n (end_by P W n (at (ends_after P W n r)))

-- the ends: a way without a loop has at most n nodes, so n rounds are enough
unfoldable pub ends : List ℕ → List ℕ → ℕ → List ℕ
ends P W n = ends_after P W n n

-- the begins
unfoldable pub begins : List ℕ → List ℕ → ℕ → List ℕ
begins P W n = tab n (begin_by P n (at (ends P W n)))

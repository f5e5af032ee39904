-- A sum over segments, where f j is what segment j is given.
use Rattle.std.specs.Prelude.{ℕ, ◌*◌}
use Rattle.plain.specs.Sums.{sum_to}
use Rattle.sets.specs.Member.{bit}
use Rattle.segments.specs.Cut.{segments}
use Rattle.segments.specs.Running.{running}

-- "the sum over the segments it runs in", for node v
unfoldable pub share : (n : ℕ) (S F f : ℕ → ℕ) (v : ℕ) → ℕ
share n S F f v = sum_to (segments n F) (λ j. bit v (running n S F j) * f j)

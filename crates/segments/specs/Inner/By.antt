-- Stretched time, for the laws: what the segments up to a time are given.
use Rattle.std.specs.Prelude.{ℕ, suc, ◌*◌}
use Rattle.plain.specs.Pick.{up_to}
use Rattle.plain.specs.Sums.{sum_to}
use Rattle.segments.specs.Cut.{cut, segments}

-- the sum over the segments that end by time t
unfoldable pub by : (n : ℕ) (F f : ℕ → ℕ) (t : ℕ) → ℕ
by n F f t = sum_to (segments n F) (λ j. up_to (cut n F (suc j)) t * f j)

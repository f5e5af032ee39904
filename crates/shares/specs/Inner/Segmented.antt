-- What the cut of a task gives the shares: the hypotheses of the laws.
use Rattle.std.specs.Prelude.{◌≡◌, ℕ, ◌*◌, ◌≤◌, ◌<◌}
use Rattle.plain.specs.Sums.{sum_to}

-- path and work are the sums over the segments, no segment is empty or idle, and the path is within the period
pub record Segmented (T C P s : ℕ) (m e : ℕ → ℕ) : Type 0 where
  pub path : P ≡ sum_to s e
  pub work : C ≡ sum_to s (λ j. m j * e j)
  pub threads : (j : ℕ) → j < s → 0 < m j
  pub lengths : (j : ℕ) → j < s → 0 < e j
  pub within : P ≤ T
  pub some : 0 < s

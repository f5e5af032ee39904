-- Words that hold a cut of a task: they say of each segment what the cut says, so a sum over the words is the sum over the cut.
use mathlib.Core.Path.{◌≡◌}
use mathlib.Core.List.{List}
use Prim.Native.Nat.{ℕ, ◌<◌}
use Rattle.plain.specs.Sums.{sum_to}
use Rattle.plain.proofs.Sums.{sum_same}
use Rattle.shares.specs.Words.{threads_at, length_at, numerator_at}

-- the words hold a cut of s segments with threads m, lengths e and numerators f
pub record HoldsSegments (w : List ℕ) (s : ℕ) (m e f : ℕ → ℕ) : Type 0 where
  pub threads : (j : ℕ) → j < s → threads_at w j ≡ m j
  pub lengths : (j : ℕ) → j < s → length_at w j ≡ e j
  pub numerators : (j : ℕ) → j < s → numerator_at w j ≡ f j

-- then what the segments are given in all is that of the cut
pub numerators-are : {w : List ℕ} {s : ℕ} {m e f : ℕ → ℕ} → HoldsSegments w s m e f → sum_to s (numerator_at w) ≡ sum_to s f
numerators-are {w} {s} {f = f} is = sum_same s (numerator_at w) f is.numerators

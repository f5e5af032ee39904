-- What the first three rules say of a plan's numbers: its segments are the own plan's, and all it gives them is period × Q, which fits.
use mathlib.Core.Path.{◌≡◌}
use mathlib.Core.Bool.{true}
use mathlib.Core.List.{List}
use Prim.Native.Nat.{ℕ, ◌*◌, ◌≤◌, ◌<◌}
use native.Mathlib.Nat.{mul-le-mul, le_trans}
use lib.Dec.{eqb}
use borrow.Author.Tests.{eqb-true}
use Rattle.plain.specs.At.{at}
use Rattle.plain.specs.Sums.{sum_to}
use Rattle.plain.proofs.Tests.{both_true, between-true, all_to-true}
use Rattle.tables.specs.Limits.{period_max, over_max}
use Rattle.shares.specs.Inner.Asked.{numerator_max}
use Rattle.shares.specs.Words.{threads_at, length_at, numerator_at, deadline_at}
use Rattle.rules.specs.Rules.{over_fits, summed}
use Rattle.rules.specs.Inner.Own.{windowed, held_by, SharedIn}
use Rattle.rules.proofs.Windows.{share-low}

-- period × Q
pub whole-fits : {T : ℕ} (w : List ℕ) → T ≤ period_max → over_fits w ≡ true → T * at w 0 ≤ numerator_max
whole-fits w p o = mul-le-mul p (between-true 1 (at w 0) over_max o).1

module _ {own w P X : List ℕ} {T C : ℕ} (asked : SharedIn own w P X T C) where
  pub over-high : at w 0 ≤ over_max
  over-high = (between-true 1 (at w 0) over_max asked.over).1

  -- as many segments
  pub segments-same : at w 1 ≡ at own 1
  segments-same = eqb-true _ _ (both_true (eqb (at w 1) (at own 1)) _ asked.cut).0

  -- a segment's work is within the task's
  pub piece-low : (j : ℕ) → j < at w 1 → threads_at w j * length_at w j ≤ C
  piece-low j l =
      let k : j < at own 1 = rw segments-same at l in
      let all = (both_true (eqb (at w 1) (at own 1)) _ asked.cut).1 in
      let same = both_true (eqb (threads_at w j) (threads_at own j)) _ (all_to-true (at own 1) _ all j k) in
      rw (eqb-true (threads_at w j) (threads_at own j) same.0, eqb-true (length_at w j) (length_at own j) same.1) (asked.rules.pieces j k)

  -- the whole, and what the segments get in all
  pub whole-low : T * at w 0 ≤ numerator_max
  whole-low = whole-fits w asked.rules.period asked.over

  pub given-low : sum_to (at own 1) (numerator_at w) ≤ numerator_max
  given-low = rw (← segments-same, eqb-true (sum_to (at w 1) (numerator_at w)) (T * at w 0) asked.shared) whole-low

  -- a deadline, by the fourth
  pub deadline-low : summed (held_by own P X T C) w ≡ true → (v : ℕ) → v < at own 2 → deadline_at w v ≤ numerator_max
  deadline-low held v l = rw (eqb-true (deadline_at w v) (windowed own (numerator_at w) v) (all_to-true (at own 2) _ held v l)) (le_trans (share-low own (numerator_at w) v) given-low)

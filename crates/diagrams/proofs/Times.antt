-- The times of a run are the cuts: each segment's node finishes at the next cut, and that is, by the definition of the cuts, the least finish
-- above the present one.
use mathlib.Core.Path.{◌≡◌, sym}
use mathlib.Core.List.{List}
use Prim.Native.Nat.{ℕ, zero, suc, ◌≤◌, ◌<◌}
use Rattle.plain.specs.At.{at}
use Rattle.segments.specs.Cut.{latest, next, cut}
use Rattle.segments.specs.Inner.Ended.{ended}
use Rattle.segments.proofs.Cuts.{cut-none}
use Rattle.segments.proofs.Next.{next-least}
use Rattle.segments.proofs.Segments.{segment-up}
use Rattle.diagrams.specs.Inner.Traced.{CutUp}

module _ {n : ℕ} {S F : ℕ → ℕ} {s path : ℕ} {m en e : List ℕ} (w : CutUp n S F s path m en e) where
  -- the run's times, 0 and the finish of each segment's node, are the cuts
  pub times-are-cuts : (j : ℕ) → j ≤ s → ended en e j ≡ cut n F j
  times-are-cuts zero h = sym (cut-none n F)
  times-are-cuts (suc j) h = (w.closed j h).1

  -- the next time lies above the present cut, and no finish above it is earlier
  pub next-is-least : (j : ℕ) → j < s → (cut n F j < ended en e (suc j)) × ((v : ℕ) → v < n → cut n F j < at e v → ended en e (suc j) ≤ at e v)
  unfolding cut next
  next-is-least j h = rw (w.closed j h).1 (
    segment-up n F j (rw w.count at h),
    λ v l a. rw (w.finish v l) (next-least F (latest n F) (cut n F j) n v l (rw (w.finish v l) at a)),
  )

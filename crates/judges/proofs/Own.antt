-- Our own plan keeps the eight rules: Q is above 0 and within its limit, the cut is the task's, sums, offsets and densities are computed by the rules themselves, and
-- demand 3 says the rest.
use mathlib.Core.Path.{◌≡◌, sym, ap, ap₂, ◌∙◌}
use mathlib.Core.List.{List}
use Prim.Native.Nat.{ℕ, ◌+◌, ◌*◌, ◌≤◌, ◌<◌}
use Rattle.plain.specs.At.{at, tab}
use Rattle.plain.specs.Sums.{sum_to}
use Rattle.plain.proofs.Lists.{at-tab}
use Rattle.plain.proofs.Sums.{sum_same}
use Rattle.sets.specs.Greatest.{greatest}
use Rattle.sets.proofs.Greatest.{greatest-same}
use Rattle.tables.specs.declared.TaskTable.{TaskTable}
use Rattle.tables.specs.Limits.{over_max}
use Rattle.ways.proofs.Ways.{begin-rule}
use Rattle.ways.proofs.Totals.{work-le}
use Rattle.segments.proofs.Shares.{share-same}
use Rattle.shares.specs.Words.{numerator_at}
use Rattle.shares.specs.Density.{millionths}
use Rattle.shares.proofs.Bounds.{over-high}
use Rattle.plans.specs.Diagram.{start, finish, segment_count}
use Rattle.plans.specs.Shares.{over, deadline, offset, density}
use Rattle.plans.specs.Words.{written}
use Rattle.plans.specs.Inner.Planned.{Planned}
use Rattle.plans.proofs.Table.{tidy, free, cutting}
use Rattle.plans.proofs.Kept.{kept}
use Rattle.plans.proofs.Read.{at-over, at-segments, at-density, segments-held}
use Rattle.judges.specs.Rules.{Rule, KeepsAll}
use Rattle.judges.specs.Rules.Rule.{fits, cut, shared, summed, followed, halved, thinned, rounded}
use Rattle.judges.proofs.Rules.{eight}
use Rattle.judges.proofs.Window.{offset-own, deadline-own}

module _ {t : TaskTable} (ok : Planned t) (old : List ℕ) where
  abbrev own : List ℕ
  own = written t old

  -- "Its offset is 0 without parents, else the greatest parent's offset plus deadline"
  offset-rule : (v : ℕ) → v < t.count → offset t v ≡ greatest t.count (at t.parents v) (λ p. offset t p + deadline t p)
  unfolding offset
  offset-rule v h =
      begin-rule t.parents (tab t.count (deadline t)) t.count (tidy ok.range) (free ok.range ok.free) v h
      ∙ greatest-same t.count (at t.parents v) _ _ (λ p l m. ap (λ (x : ℕ). offset t p + x) (at-tab t.count (deadline t) p l))

  over-max : over t ≤ over_max
  over-max = over-high (cutting ok) ok.range.period-high (work-le t.execution t.count _ ok.range.run-high ok.range.count-high)

  own-1 : Rule t own 1
  own-1 = let q = at-over t old in fits (rw q (kept ok).over-some) (rw q over-max)

  own-2 : Rule t own 2
  own-2 = let s = segments-held t old in cut (at-segments t old) (λ j h. (s.threads j h, s.lengths j h))

  own-3 : Rule t own 3
  own-3 = shared (ap (λ (s : ℕ). sum_to s (numerator_at own)) (at-segments t old) ∙ sum_same (segment_count t) _ _ (segments-held t old).numerators ∙ (kept ok).whole-period ∙ ap (λ (q : ℕ). t.period * q) (sym (at-over t old)))

  own-4 : Rule t own 4
  unfolding deadline
  own-4 = summed (λ v h. deadline-own ok old v h ∙ share-same t.count (start t) (finish t) _ _ v (λ j l m. sym ((segments-held t old).numerators j l)))

  own-5 : Rule t own 5
  own-5 = followed (λ v h. offset-own ok old v h ∙ offset-rule v h
      ∙ greatest-same t.count (at t.parents v) _ _ (λ p l m. sym (ap₂ ◌+◌ (offset-own ok old p l) (deadline-own ok old p l))))

  own-6 : Rule t own 6
  own-6 = halved (λ v h. rw (deadline-own ok old v h, at-over t old) ((kept ok).at-least-half v h))

  own-7 : Rule t own 7
  own-7 = thinned (λ j l. let h = rw (at-segments t old) at l in let s = segments-held t old in rw (s.threads j h, s.lengths j h, s.numerators j h, at-over t old) ((kept ok).thin j h))

  own-8 : Rule t own 8
  unfolding density
  own-8 = rounded (λ v h. ap (λ (s : ℕ). at own (3 + 3 * s + (3 * v + 2))) (at-segments t old) ∙ at-density t old v h ∙ ap₂ (millionths (at t.execution v)) (sym (at-over t old)) (sym (deadline-own ok old v h)))

  -- all of them
  pub own-keeps : KeepsAll t own
  own-keeps = eight (Rule t own) own-1 own-2 own-3 own-4 own-5 own-6 own-7 own-8

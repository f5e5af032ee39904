-- A plan that keeps the eight rules keeps what demand 3 says of one: the period is shared out by rule 3; offset and deadline obey the rule of longest ways over the sums of
-- rule 4, and nothing else does, so they are the timing diagram in time that is stretched by the plan's own numerators, which ends at the period.
use mathlib.Core.Path.{◌≡◌, sym, ap, ◌∙◌}
use mathlib.Core.List.{List}
use Prim.Native.Nat.{ℕ, ◌+◌, ◌*◌, ◌≤◌, ◌<◌}
use native.Mathlib.Omega.{arith}
use Rattle.plain.specs.At.{at, tab}
use Rattle.plain.specs.Sums.{sum_to}
use Rattle.plain.proofs.Lists.{at-tab}
use Rattle.sets.specs.Greatest.{greatest}
use Rattle.sets.proofs.Greatest.{le-greatest, greatest-same}
use Rattle.tables.specs.declared.TaskTable.{TaskTable}
use Rattle.ways.specs.Reaches.{Reaches}
use Rattle.ways.specs.Inner.Tidy.{Tidy}
use Rattle.ways.specs.Ways.{begin_by}
use Rattle.ways.proofs.Reaches.{parent-lt}
use Rattle.ways.proofs.Ways.{only-begin-rule, ends-begins}
use Rattle.segments.specs.Share.{share}
use Rattle.segments.specs.Inner.By.{by}
use Rattle.segments.proofs.Shares.{by_le, share-lengths}
use Rattle.shares.specs.Words.{threads_at, length_at, numerator_at, offset_at, deadline_at}
use Rattle.plans.specs.Diagram.{start, finish, work, segment_count, threads_in, length_in}
use Rattle.plans.specs.Kept.{KeptBy}
use Rattle.plans.specs.Inner.Planned.{Planned}
use Rattle.plans.proofs.Table.{tidy, free, drawn, cutting}
use Rattle.plans.proofs.Stretched.{ends-stretched}
use Rattle.judges.specs.Rules.{Rule, KeepsAll}
use Rattle.judges.specs.Rules.Rule.{fits, cut, shared, summed, followed, halved, thinned}

module _ {t : TaskTable} {w : List ℕ} where
  -- what each rule says
  pub over-of : Rule t w 1 → 1 ≤ at w 0
  over-of (fits l h) = l

  pub cut_of : Rule t w 2 → (at w 1 ≡ segment_count t) × ((j : ℕ) → j < segment_count t → (threads_at w j ≡ threads_in t j) × (length_at w j ≡ length_in t j))
  cut_of (cut n e) = (n, e)

  pub shared_of : Rule t w 3 → sum_to (at w 1) (numerator_at w) ≡ t.period * at w 0
  shared_of (shared e) = e

  pub summed-of : Rule t w 4 → (v : ℕ) → v < t.count → deadline_at w v ≡ share t.count (start t) (finish t) (numerator_at w) v
  summed-of (summed e) = e

  pub followed_of : Rule t w 5 → (v : ℕ) → v < t.count → offset_at w v ≡ begin_by t.parents t.count (λ p. offset_at w p + deadline_at w p) v
  followed_of (followed e) = e

  pub halved_of : Rule t w 6 → (v : ℕ) → v < t.count → at t.execution v * at w 0 ≤ 2 * deadline_at w v
  halved_of (halved h) = h

  pub thinned-of : Rule t w 7 → (j : ℕ) → j < at w 1 → threads_at w j * length_at w j * at w 0 * t.period ≤ 2 * work t * numerator_at w j
  thinned-of (thinned h) = h

module _ {t : TaskTable} (ok : Planned t) {w : List ℕ} (all : KeepsAll t w) where
  tidied : Tidy t.parents t.count
  tidied = tidy ok.range

  freed : (v : ℕ) → Reaches t.parents v v → ⊥
  freed = free ok.range ok.free

  -- the sums of rule 4
  abbrev W : List ℕ
  W = tab t.count (share t.count (start t) (finish t) (numerator_at w))

  weight : (v : ℕ) → v < t.count → at W v ≡ deadline_at w v
  weight v h = at-tab t.count _ v h ∙ sym (summed-of (all 4 (omega arith) (omega arith)) v h)

  follows : (v : ℕ) → v < t.count → offset_at w v ≡ greatest t.count (at t.parents v) (λ p. offset_at w p + at W p)
  follows v h = followed_of (all 5 (omega arith) (omega arith)) v h
      ∙ greatest-same t.count (at t.parents v) _ _ (λ p l m. ap (λ (x : ℕ). offset_at w p + x) (sym (weight p l)))

  -- offset plus deadline is the finish in stretched time
  ends_by : (v : ℕ) → v < t.count → offset_at w v + deadline_at w v ≡ by t.count (finish t) (numerator_at w) (finish t v)
  ends_by v h =
      let a = only-begin-rule t.parents W t.count tidied freed (offset_at w) follows v h in
      let b = ends-begins t.parents W t.count tidied freed v h in
      let c = ends-stretched t.parents t.execution t.count tidied freed (numerator_at w) v h in
      let d = weight v h in
      omega arith

  whole : sum_to (segment_count t) (numerator_at w) ≡ t.period * at w 0
  whole = ap (λ (s : ℕ). sum_to s (numerator_at w)) (sym (cut_of (all 2 (omega arith) (omega arith))).0) ∙ shared_of (all 3 (omega arith) (omega arith))

  thin : (j : ℕ) → j < segment_count t → threads_in t j * length_in t j * at w 0 * t.period ≤ 2 * work t * numerator_at w j
  thin j h =
      let c = cut_of (all 2 (omega arith) (omega arith)) in
      rw (← (c.1 j h).0, ← (c.1 j h).1) (thinned-of (all 7 (omega arith) (omega arith)) j (rw c.0 h))

  -- the sentences of demand 3
  pub kept_by : KeptBy t (at w 0) (numerator_at w) (deadline_at w) (offset_at w)
  kept_by = record {
    over-some = over-of (all 1 (omega arith) (omega arith));
    whole-period = whole;
    all-work = sym (cutting ok).work;
    each-work = share-lengths (drawn ok);
    after-parents = λ v p h m. rw (followed_of (all 5 (omega arith) (omega arith)) v h)
        (le-greatest t.count (at t.parents v) (λ p. offset_at w p + deadline_at w p) p (parent-lt t.parents t.count tidied v p m) m);
    within-period = λ v h. let a = ends_by v h in let b = by_le t.count (finish t) (numerator_at w) (finish t v) in let c = whole in omega arith;
    at-least-half = halved_of (all 6 (omega arith) (omega arith));
    thin = thin;
  }

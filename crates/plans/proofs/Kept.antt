-- Every accepted table's plan keeps what demand 3 says. The period and the work are shared out because the three share cases are made so; a
-- node's deadline is a sum over its segments, each at least half its length; and offsets and deadlines are the timing diagram in stretched
-- time, which ends at the period.
use mathlib.Core.Path.{◌≡◌, sym}
use Prim.Native.Nat.{ℕ, ◌+◌, ◌*◌, ◌≤◌, ◌<◌}
use native.Mathlib.Nat.{mul_comm}
use native.Mathlib.Omega.{arith}
use Rattle.plain.specs.At.{at, tab}
use Rattle.plain.specs.Sums.{sum_to}
use Rattle.plain.proofs.Lists.{at-tab}
use Rattle.sets.specs.Member.{Member}
use Rattle.tables.specs.declared.TaskTable.{TaskTable}
use Rattle.ways.specs.Reaches.{Reaches}
use Rattle.ways.specs.Inner.Tidy.{Tidy}
use Rattle.ways.proofs.Reaches.{parent-lt}
use Rattle.ways.proofs.Ways.{ends-begins, parent-ends}
use Rattle.segments.specs.Inner.By.{by}
use Rattle.segments.proofs.Shares.{by_le, share-lengths, share-half}
use Rattle.shares.proofs.Fair as fair
use Rattle.plans.specs.Diagram.{start, finish, segment_count}
use Rattle.plans.specs.Shares.{over, numerator_of, deadline, offset}
use Rattle.plans.specs.Inner.Planned.{Planned}
use Rattle.plans.specs.Kept.{Kept}
use Rattle.plans.proofs.Table.{tidy, free, drawn, cutting}
use Rattle.plans.proofs.Stretched.{ends-stretched, offset-stretched}

module _ {t : TaskTable} (ok : Planned t) where
  tidied : Tidy t.parents t.count
  tidied = tidy ok.range

  freed : (v : ℕ) → Reaches t.parents v v → ⊥
  freed = free ok.range ok.free

  -- a node's offset is D(start), and offset plus deadline is D(finish), which its children wait for
  pub offset-by : (v : ℕ) → v < t.count → offset t v ≡ by t.count (finish t) (numerator_of t) (start t v)
  unfolding offset deadline
  offset-by v h = offset-stretched t.parents t.execution t.count tidied freed (numerator_of t) v h

  pub ends_by : (v : ℕ) → v < t.count → offset t v + deadline t v ≡ by t.count (finish t) (numerator_of t) (finish t v)
  unfolding offset deadline
  ends_by v h =
      let a = ends-begins t.parents (tab t.count (deadline t)) t.count tidied freed v h in
      let b = at-tab t.count (deadline t) v h in
      let c = ends-stretched t.parents t.execution t.count tidied freed (numerator_of t) v h in
      omega arith

  pub whole : sum_to (segment_count t) (numerator_of t) ≡ t.period * over t
  unfolding numerator_of
  whole = fair.whole (cutting ok)

  half : (v : ℕ) → v < t.count → at t.execution v * over t ≤ 2 * deadline t v
  unfolding deadline numerator_of
  half v h =
      let a = share-half (drawn ok) (numerator_of t) (over t) (λ j l. let b = fair.half (cutting ok) j l in let c = mul_comm (numerator_of t j) 2 in omega arith) v h in
      let d = mul_comm (deadline t v) 2 in
      omega arith

  after : (v p : ℕ) → v < t.count → Member p (at t.parents v) → offset t p + deadline t p ≤ offset t v
  unfolding offset
  after v p h m =
      let W = tab t.count (deadline t) in
      let l = parent-lt t.parents t.count tidied v p m in
      let a = ends-begins t.parents W t.count tidied freed p l in
      let b = at-tab t.count (deadline t) p l in
      let c = parent-ends t.parents W t.count tidied v p m in
      omega arith

  -- the sentences of demand 3
  pub kept : Kept t
  unfolding numerator_of
  kept = record {
    over-some = fair.over-some (cutting ok);
    whole-period = whole;
    all-work = sym (cutting ok).work;
    each-work = share-lengths (drawn ok);
    after-parents = after;
    within-period = λ v h. let a = ends_by v h in let b = by_le t.count (finish t) (numerator_of t) (finish t v) in let c = whole in omega arith;
    at-least-half = half;
    thin = fair.thin (cutting ok);
  }

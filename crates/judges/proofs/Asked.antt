-- What the rules ask: our own plan's words hold the task's segments and nodes, whose sums are bounded by the period over Q; a plan record's words are below 2^63.
use mathlib.Core.Path.{◌≡◌, sym, ap, ◌∙◌}
use mathlib.Core.List.{List}
use Prim.Native.Nat.{ℕ, ◌+◌, ◌*◌, ◌≤◌, ◌<◌}
use native.Mathlib.Nat.{mul-le-mul}
use native.Mathlib.Omega.{arith}
use lib.ListN.{length}
use Rattle.plain.specs.At.{at}
use Rattle.plain.specs.Sums.{sum_to}
use Rattle.plain.proofs.Sums.{sum_same, sum-under}
use Rattle.tables.specs.declared.TaskTable.{TaskTable}
use Rattle.tables.specs.Limits.{count_max, work_max}
use Rattle.ways.proofs.Totals.{work-le}
use Rattle.segments.proofs.Segments.{segments-le}
use Rattle.shares.specs.Inner.Asked.{numerator_max}
use Rattle.shares.specs.Words.{threads_at, length_at, numerator_at, offset_at, deadline_at}
use Rattle.shares.proofs.Bounds.{over-high}
use Rattle.shares.proofs.Fair as fair
use Rattle.plans.specs.Diagram.{finish, work, segment_count, threads_in, length_in}
use Rattle.plans.specs.Shares.{over}
use Rattle.plans.specs.Words.{words_max, written}
use Rattle.plans.specs.Inner.Planned.{Planned}
use Rattle.plans.proofs.Table.{tidy, path-some, cutting}
use Rattle.plans.proofs.Kept.{kept}
use Rattle.plans.proofs.Read.{at-segments, at-nodes, segments-held}
use Rattle.rules.specs.Inner.Own as rules
use Rattle.judges.specs.Inner.Judged.{OwnIn, PlanShaped}
use Rattle.judges.proofs.Window.{offset-own, deadline-own}

module _ {t : TaskTable} (ok : Planned t) where
  pub work-high : work t ≤ work_max
  work-high = work-le t.execution t.count _ ok.range.run-high ok.range.count-high

  work-some : 1 ≤ work t
  work-some = let a = fair.path-le (cutting ok) in let b = path-some ok.range ok.free in omega arith

  -- the period over Q
  pub whole-high : t.period * over t ≤ numerator_max
  whole-high = mul-le-mul ok.range.period-high (over-high (cutting ok) ok.range.period-high work-high)

  module _ (old : List ℕ) where
    abbrev own : List ℕ
    own = written t old

    few : at own 1 ≤ count_max
    few = rw (at-segments t old) (let a = segments-le t.count (finish t) in let b = ok.range.count-high in omega arith)

    own-plan : words_max ≤ length own → rules.PlanIn own
    own-plan h = let nodes : at own 2 ≤ count_max = rw (at-nodes t old) ok.range.count-high in
        record { segments = few; nodes = nodes; room = let a = few in omega arith }

    own-whole : sum_to (at own 1) (numerator_at own) ≤ numerator_max
    own-whole =
        let a = ap (λ (s : ℕ). sum_to s (numerator_at own)) (at-segments t old) ∙ sum_same (segment_count t) _ _ (segments-held t old).numerators ∙ (kept ok).whole-period in
        rw a whole-high

    own-ends : (v : ℕ) → v < t.count → offset_at own v + deadline_at own v ≤ numerator_max
    own-ends v h = let a = (kept ok).within-period v h in let b = whole-high in rw (offset-own ok old v h, deadline-own ok old v h) (omega arith)

    own-pieces : (j : ℕ) → j < at own 1 → threads_at own j * length_at own j ≤ work t
    own-pieces j l =
        let h : j < segment_count t = rw (at-segments t old) at l in
        let s = segments-held t old in
        rw (s.threads j h, s.lengths j h) (let a = sum-under (λ i. threads_in t i * length_in t i) j (segment_count t) h in let b = (cutting ok).work in omega arith)

-- what the rules ask of the two plans
pub rules-in : {t : TaskTable} {own plan : List ℕ} {C : ℕ} → OwnIn t own C → PlanShaped plan → at plan 2 ≡ t.count → rules.RulesIn own plan t.parents t.execution t.period C
rules-in {t} o p n = rw (o.is, o.work) (record {
  own_in = own-plan o.table o.old (rw o.is at o.room);
  plan-in = record { segments = p.segments; nodes = p.nodes; room = let a = p.size in omega arith };
  same_nodes = n ∙ sym (at-nodes t o.old);
  words_small = p.small;
  whole-small = own-whole o.table o.old;
  ends-small = λ v h. own-ends o.table o.old v (rw (at-nodes t o.old) at h);
  pieces = own-pieces o.table o.old;
  period = o.table.range.period-high;
  work-low = work-some o.table;
  work = work-high o.table;
  tidy = rw (at-nodes t o.old) (tidy o.table.range);
  executions = o.table.range.run-high;
})

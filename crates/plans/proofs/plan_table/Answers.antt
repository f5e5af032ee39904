-- `plans::plan_table` meets its contract: the executions that are run have their cost; the run tells the loop and the path, so the tests are those of the table; a refusal goes out with the
-- words untouched, and else the run is the table's, and its plan is written.
use mathlib.Core.Path.{◌≡◌, refl, sym, ap, ◌∙◌}
use mathlib.Core.Bool.{false}
use mathlib.Core.List.{List, ◌++◌}
use Prim.Native.Nat.{ℕ, ◌+◌, ◌*◌, ◌≤◌}
use native.Mathlib.Omega.{arith}
use lib.ListN.{drop}
use Rattle.refusals.proofs.Out.{goes-out}
use Rattle.tables.specs.Cost.{costed}
use Rattle.tables.proofs.Cost.{at-cost, cost-none}
use Rattle.ways.specs.Closure.{loops}
use Rattle.ways.specs.Totals.{work_of, longest_of}
use Rattle.segments.specs.Inner.Listed.{threads_of, enders_of}
use Rattle.diagrams.specs.Inner.Traced.{Traced}
use Rattle.plans.specs.Diagram.{longest, path, segment_count}
use Rattle.plans.specs.Words.{front_words}
use Rattle.plans.specs.Calls.{unplanned}
use Rattle.plans.specs.Inner.Planned.{Planned}
use Rattle.plans.specs.Inner.Drawn.{SegmentsOf, NodesOf}
use Rattle.plans.specs.Inner.Table.{unless_later}
use Rattle.plans.proofs.Table.{path-latest}
use Rattle.plans.proofs.Drawn.{path-so}
use Rattle.plans.proofs.Front.{front-back, past-front}
use Rattle.plans.proofs.Tests.{on_fits, rules, tested-so, rules-refuse, rules-pass, later-accepts}
use Rattle.plans.proofs.plan_table.Goals as goal
use Rattle.plans.proofs.plan_table.Goals.{After-sweep-swept, After-tested, After-weigh-weighed, After-write_segments, In_ok-tested}

pub add_cost-requires : goal.add_cost-requires
add_cost-requires c =
    let a = c.args in
    let r = c.requires.0 in
    let paid = at-cost a.table.execution a.cost in
    (r.count-high, λ v. rw (paid v) at (r.run-high v), λ v h. cost-none a.cost _ (sym (paid v) ∙ r.run_past v h))

-- the run is the table's, with its cost
traced : (c : After-sweep-swept) → (let t = costed c.args.table c.args.cost in let r = c.sweep-swept.result in let l = c.sweep-swept.new.trace in
    Traced t.parents t.execution t.count r.done r.cut.number r.cut.time (threads_of l.segments) (enders_of l.segments) l.finishes l.first l.last)
traced c = rw (← c.add_cost.ensures) c.sweep-swept.ensures

-- the tests are the table's own
answered : (c : After-tested) → (let t = costed c.args.table c.args.cost in c.tested.result ≡ rules t c.args.later)
answered c =
    let s = traced (goal.at.After-tested c).After-sweep-swept in
    let t = costed c.args.table c.args.cost in
    c.tested.ensures ∙ tested-so t c.args.later _ _ s.told (λ l. (s.cut_up l).path-is ∙ sym (path-latest t))

pub returns-in_err-tested : goal.returns-in_err-tested
returns-in_err-tested c =
    let a = c.args in
    let t = costed a.table a.cost in
    let out = rules-refuse t a.later a.words.now (sym (answered (goal.at.returns-in_err-tested c).After-tested) ∙ c.in_err-tested.was) in
    rw (goes-out _ _ c.from_residual.ensures.1) (record { words_after = sym out.1; totalled = tt; refusing = out.0 })

-- ---- no refusal: the table has a plan, and the run is cut up as it
passed : (c : In_ok-tested) → (let t = costed c.args.table c.args.cost in (loops t.parents t.count ≡ false) × (path t ≤ t.period) × (c.args.later.refusal ≡ 0))
passed c = rules-pass (costed c.args.table c.args.cost) c.args.later (sym (answered (goal.at.In_ok-tested c).After-tested) ∙ c.in_ok-tested.was)

planned : (c : In_ok-tested) → Planned (costed c.args.table c.args.cost)
planned c = record { range = c.requires.0; free = (passed c).0; fits = (passed c).1 }

segments-of : (c : After-weigh-weighed) → (let t = costed c.args.table c.args.cost in let r = c.sweep-swept.result in
    SegmentsOf t t.count r.cut.number (record { period = t.period; work = c.weigh-weighed.result.work; path = r.cut.time }) c.sweep-swept.new.trace)
segments-of c = record {
  table = planned (goal.at.After-weigh-weighed c).In_ok-tested;
  count = refl;
  period = refl;
  work = c.weigh-weighed.ensures.0 ∙ ap (λ (X : List ℕ). work_of X (costed c.args.table c.args.cost).count) c.add_cost.ensures;
  cut_up = (traced (goal.at.After-weigh-weighed c).After-sweep-swept).cut_up (passed (goal.at.After-weigh-weighed c).In_ok-tested).0;
}

longest-of : (c : After-weigh-weighed) → c.weigh-weighed.result.longest ≡ longest (costed c.args.table c.args.cost)
longest-of c = c.weigh-weighed.ensures.1 ∙ ap (λ (X : List ℕ). longest_of X (costed c.args.table c.args.cost).count) c.add_cost.ensures

pub write_segments-requires : goal.write_segments-requires
write_segments-requires c = ((_, segments-of (goal.at.write_segments-requires c).After-weigh-weighed), c.requires.1)

-- the words once the front is written
front : (c : After-write_segments) → (let t = costed c.args.table c.args.cost in c.write_segments.new.words ≡ front_words t ++ drop (3 + 3 * segment_count t) c.args.words.now)
front c = c.write_segments.ensures _ (segments-of (goal.at.After-write_segments c).After-weigh-weighed)

nodes-of : (c : After-write_segments) → (let t = costed c.args.table c.args.cost in NodesOf t t.count c.sweep-swept.new.trace c.add_cost.new.executions c.write_segments.new.words)
nodes-of c =
    let p = (goal.at.After-write_segments c).In_ok-tested in
    let kept = c.write_segments.auto.words in
    let room = c.requires.1 in
    record {
      table = planned p;
      count = refl;
      spanned = (traced (goal.at.After-write_segments c).After-sweep-swept).spanned (passed p).0;
      executions = c.add_cost.ensures;
      room = omega arith;
      front = front-back (costed c.args.table c.args.cost) c.args.words.now (front c);
    }

pub write_nodes-count-requires : goal.write_nodes-count-requires
write_nodes-count-requires c = (_, nodes-of (goal.at.write_nodes-count-requires c).After-write_segments)

pub returns : goal.returns
returns c =
    let p = (goal.at.returns c).In_ok-tested in
    let w = (goal.at.returns c).After-weigh-weighed in
    let t = costed c.args.table c.args.cost in
    let words = c.args.words.now in
    let wrote = c.write_nodes-count.ensures _ (nodes-of (goal.at.returns c).After-write_segments) in
    let fits = on_fits (unplanned words) (unless_later c.args.later words) t (passed p).0 (passed p).1 in
    record {
      words_after = rw (wrote.0, wrote.1 ∙ past-front t words (front (goal.at.returns c).After-write_segments)) (sym (fits ∙ later-accepts c.args.later words t (passed p).2));
      totalled = record { table = planned p; words = wrote.0; work = (segments-of w).work; path = path-so (segments-of w); longest = longest-of w };
      refusing = tt;
    }

-- What a cost does to a task. The work is a sum over the nodes, and each that runs has the cost in its term once. With cost 0 neither 26 nor another
-- table is left of what a call decides by.
use mathlib.Core.Path.{◌≡◌, refl, ap, ◌∙◌}
use mathlib.Core.Bool.{Bool, true, false}
use mathlib.Core.List.{List}
use Prim.Native.Nat.{ℕ, ◌+◌, ◌*◌}
use native.Mathlib.Omega.{arith}
use lib.Dec.{ltb}
use lib.ListN.{length}
use borrow.Author.Tests.{le-leb}
use Rattle.std.specs.Prelude.{Ok, Err}
use Rattle.plain.specs.At.{at}
use Rattle.plain.specs.Pick.{pick, up_to}
use Rattle.plain.specs.Sums.{sum_to}
use Rattle.plain.proofs.Sums.{sum_same, sum-add, sum-mul}
use Rattle.refusals.specs.Numbers.{few_words}
use Rattle.refusals.specs.declared.Refusal.{Refusal}
use Rattle.refusals.specs.Refusal.{refusal, on_outcome}
use Rattle.tables.specs.declared.TaskTable.{TaskTable}
use Rattle.tables.specs.Cost.{with_cost, costed}
use Rattle.tables.proofs.Cost.{at-cost, cost-runs, cost-cases, costed-0}
use Rattle.records.specs.Reading.{reading_of}
use Rattle.ways.specs.Totals.{work_of}
use Rattle.ways.proofs.Totals.{work-le}
use Rattle.shares.proofs.Bounds.{over-high}
use Rattle.plans.specs.Accepted.{Accepted as Accepted-table}
use Rattle.plans.specs.Diagram.{work}
use Rattle.plans.specs.Words.{words_max}
use Rattle.plans.specs.Calls.{before_reading, on_table, on_task, unplanned, planned, plan_call}
use Rattle.plans.proofs.Table.{plans-accepted, cutting}
use Rattle.boards.specs.declared.Row.{Row}
use Rattle.admissions.specs.Admission.{not_admitted, entered, noting}
use Rattle.claims.specs.Cost.{runners, on_record, old_plan, old_admission, Limited, OfCost}

-- who runs pays once, and who doesn't pays nothing
paid : (cost written : ℕ) → with_cost cost written ≡ written + up_to 1 written * cost
unfolding up_to
paid cost = cost-cases cost (λ w x. x ≡ w + up_to 1 w * cost) (omega arith) (λ w r. rw (le-leb 1 w r) (omega arith))

-- so the work grows by the cost of each node that runs
once : (t : TaskTable) (cost : ℕ) → work (costed t cost) ≡ work t + runners t * cost
unfolding work_of
once t cost =
    let X = at t.execution in
    let counted : ℕ → ℕ = λ v. up_to 1 (X v) in
    sum_same t.count (at (costed t cost).execution) (λ v. X v + counted v * cost) (λ v h. at-cost t.execution cost v ∙ paid cost (X v))
    ∙ sum-add t.count X (λ v. counted v * cost)
    ∙ ap (λ (more : ℕ). sum_to t.count X + more) (sum-mul t.count counted cost)

-- a record with cost 0 is one without
module _ {A : Type 0} (refuse : Refusal → A) where
  free-task : (go : TaskTable → A) (bytes : List ℕ) → on_task refuse go bytes 0 ≡ on_record refuse go bytes
  unfolding on_task
  free-task go bytes = ap (λ (t : TaskTable). on_outcome refuse (on_table refuse go t) (reading_of bytes).outcome) (costed-0 (reading_of bytes).table)

  -- a refusal by one test
  tested : (go : A) (t : Bool) (r : Refusal) → on_outcome refuse go (pick t (Err r) (Ok tt)) ≡ pick t (refuse r) go
  tested go true r = refl
  tested go false r = refl

  -- of the rules before the record's, 16 is left
  free-first : (go : A) (words : ℕ) → on_outcome refuse go (before_reading words 0) ≡ pick (ltb words words_max) (refuse (refusal few_words 0)) go
  unfolding before_reading
  free-first go words = tested go (ltb words words_max) (refusal few_words 0)

free-plan : (bytes words : List ℕ) → plan_call bytes words 0 ≡ old_plan bytes words
unfolding plan_call
free-plan bytes words = free-first (unplanned words) _ (length words) ∙ rw (free-task (unplanned words) (planned words) bytes)

free-noting : (bytes words : List ℕ) (rows : List Row) → noting bytes words rows 0 ≡ old_admission bytes words rows
unfolding noting
free-noting bytes words rows = free-first (not_admitted words) _ (length words) ∙ rw (free-task (not_admitted words) (entered rows words) bytes)

-- the limits: no execution is above `run_max`, and the work and Q follow
limits : (t : TaskTable) → Accepted-table t → Limited t
limits t a =
    let ok = plans-accepted a in
    let r = ok.range in
    let work-high = work-le t.execution t.count _ r.run-high r.count-high in
    record { execution-most = r.run-high; work-most = work-high; over-most = over-high (cutting ok) r.period-high work-high }

-- the promises
pub of-cost : OfCost
of-cost = record {
  runs = λ t cost v h. at-cost t.execution cost v ∙ cost-runs cost (at t.execution v) h;
  joins = λ t cost v z. at-cost t.execution cost v ∙ ap (with_cost cost) z;
  once = once;
  free-table = costed-0;
  free-plan = free-plan;
  free-noting = free-noting;
  limits = limits;
}

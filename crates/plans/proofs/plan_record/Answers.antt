-- `plans::plan_record` meets its contract: 26 and 16 first, then the reader's refusals, then the table that was read, which planning can take.
use mathlib.Core.Path.{◌≡◌, sym, ap, ◌∙◌}
use mathlib.Core.List.{List}
use Prim.Native.Nat.{ℕ}
use lib.ListN.{length}
use Rattle.std.specs.Prelude.{Ok}
use Rattle.refusals.specs.Answer.{accepted}
use Rattle.refusals.specs.After.{After}
use Rattle.refusals.proofs.Out.{goes-out}
use Rattle.tables.specs.Cost.{costed}
use Rattle.plans.specs.Calls.{before_reading, unplanned, planned, plan_call}
use Rattle.plans.specs.Inner.Table.{table_plan}
use Rattle.plans.proofs.Table.{read-plannable}
use Rattle.plans.proofs.Tests.{plan-refused, plan-read, ready, task-out, task-table, table-told, told-out}
use Rattle.plans.proofs.plan_record.Goals as goal
use Rattle.plans.proofs.plan_record.Goals.{In_ok-before_reading, In_ok-table}

pub returns-in_err-before_reading : goal.returns-in_err-before_reading
returns-in_err-before_reading c =
    let a = c.args in rw (goes-out _ _ c.from_residual.ensures.1) (sym (plan-refused a.bytes.now a.words.now a.cost (sym c.in_err-before_reading.ensures)))

-- neither 26 nor 16
first : (c : In_ok-before_reading) → before_reading (length c.args.words.now) c.args.cost ≡ Ok tt
first c = sym c.in_ok-before_reading.ensures

pub returns-in_err-table : goal.returns-in_err-table
returns-in_err-table c =
    let a = c.args in
    let through = plan-read a.bytes.now a.words.now a.cost (first (goal.at.returns-in_err-table c).In_ok-before_reading) in
    rw (goes-out _ _ c.from_residual-in_err-table.ensures.1) (sym (through ∙ task-out (unplanned a.words.now) (planned a.words.now) a.bytes.now a.cost c.in_err-table.ensures))

-- so the call is the planning of the table that was read
call : (c : In_ok-table) → (let a = c.args in plan_call a.bytes.now a.words.now a.cost ≡ table_plan (accepted 0) a.words.now (costed c.in_ok-table.table a.cost))
call c =
    let a = c.args in
    plan-read a.bytes.now a.words.now a.cost (first (goal.at.In_ok-table c).In_ok-before_reading)
    ∙ task-table (unplanned a.words.now) (planned a.words.now) a.bytes.now a.cost c.in_ok-table.ensures

pub plan_table-requires : goal.plan_table-requires
plan_table-requires c =
    let allowed = ready (length c.args.words.now) c.args.cost (first (goal.at.plan_table-requires c).In_ok-before_reading) in
    (read-plannable c.args.bytes.now c.in_ok-table.ensures allowed.0, allowed.1)

pub returns-in_err-planning : goal.returns-in_err-planning
returns-in_err-planning c =
    let a = c.args in
    let words = a.words.now in
    let t = costed c.in_ok-table.table a.cost in
    let e = rw c.accepted.ensures at c.in_err-planning.ensures.words_after in
    let n = c.in_err-planning.ensures.refusing in
    let told = table-told (unplanned words) (planned words) words t (ap (λ (x : After (List ℕ)). x.answer) e) n in
    rw (goes-out _ _ c.from_residual-in_err-planning.ensures.1, (told-out (accepted 0) words t n e).1) (told ∙ sym (call (goal.at.returns-in_err-planning c).In_ok-table))

pub returns : goal.returns
returns c = rw c.accepted.ensures at c.in_ok-planning.ensures.words_after ∙ sym (call (goal.at.returns c).In_ok-table)

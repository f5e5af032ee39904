-- `buildings::tally_of` meets its contract: the reading's refusal first, then planning's; an accepted task is tallied by its written plan.
use mathlib.Core.Path.{refl, sym, ap, ◌∙◌}
use mathlib.Core.List.{List}
use Prim.Native.Nat.{ℕ}
use Rattle.std.specs.Prelude.{Result, Ok, Err}
use Rattle.refusals.specs.declared.Refusal.{Refusal}
use Rattle.refusals.specs.After.{After}
use Rattle.refusals.proofs.Out.{goes-out}
use Rattle.tables.specs.declared.TaskTable.{TaskTable}
use Rattle.tables.specs.Cost.{costed}
use Rattle.plans.specs.Inner.Drawn.{Totalled}
use Rattle.plans.proofs.Table.{read-plannable}
use Rattle.plans.proofs.Tests.{on_fits, table-told, task-out, task-table, told-in}
use Rattle.buildings.specs.declared.Sums.{Sums}
use Rattle.buildings.specs.Inner.Tally.{task_sums, tally_of}
use Rattle.buildings.specs.Inner.PlanOf.{PlanOf}
use Rattle.buildings.proofs.tally_of.Goals as goal
use Rattle.buildings.proofs.tally_of.Goals.{In_ok-planning}

-- a refusal, and a table that is accepted
abbrev failed : Refusal → Result Sums Refusal
failed r = Err r

abbrev added : TaskTable → Result Sums Refusal
added t = Ok (task_sums t)

pub returns-in_err-table : goal.returns-in_err-table
unfolding tally_of
returns-in_err-table c = goes-out _ _ c.from_residual.ensures.1 ∙ sym (task-out failed added c.args.bytes.now c.args.cost c.in_err-table.ensures)

pub plan_table-requires : goal.plan_table-requires
plan_table-requires c = (read-plannable c.args.bytes.now c.in_ok-table.ensures c.requires.0, c.requires.1)

pub returns-in_err-planning : goal.returns-in_err-planning
unfolding tally_of
returns-in_err-planning c =
    let t = costed c.in_ok-table.table c.args.cost in
    let planned = rw c.accepted.ensures at c.in_err-planning.ensures.words_after in
    goes-out _ _ c.from_residual-in_err-planning.ensures.1
    ∙ table-told failed added c.args.words.now t (ap (λ (x : After (List ℕ)). x.answer) planned) c.in_err-planning.ensures.refusing
    ∙ sym (task-table failed added c.args.bytes.now c.args.cost c.in_ok-table.ensures)

-- an accepted table's plan stands in the words
of-plan : (c : In_ok-planning) → PlanOf (costed c.in_ok-table.table c.args.cost) c.plan_table.new.words c.in_ok-table.table.period c.in_ok-planning.planning
of-plan c =
    let t = costed c.in_ok-table.table c.args.cost in
    let totals : Totalled t c.in_ok-planning.planning = c.in_ok-planning.ensures.totalled in
    record {
      totals = totals;
      period-is = refl;
      lent = c.args.words.now;
      room = c.requires.1;
      plan = (told-in c.accepted.result c.args.words.now t refl totals.table c.in_ok-planning.ensures.words_after).2;
    }

pub sums_of-requires : goal.sums_of-requires
sums_of-requires c = (_, of-plan (goal.at.sums_of-requires c).In_ok-planning)

pub returns : goal.returns
unfolding tally_of
returns c =
    let t = costed c.in_ok-table.table c.args.cost in
    let of = of-plan (goal.at.returns c).In_ok-planning in
    ap Ok (c.sums_of.ensures t of) ∙ sym (task-table failed added c.args.bytes.now c.args.cost c.in_ok-table.ensures ∙ on_fits failed added t of.totals.table.free of.totals.table.fits)

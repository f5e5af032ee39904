-- `judges::judge_table` meets its contract: a refused table goes out by its refusal, and the plan of an accepted one is judged by our own, which stands in the words aside.
use mathlib.Core.Path.{◌≡◌, refl, sym, ap, ◌∙◌}
use mathlib.Core.List.{List}
use Prim.Native.Nat.{ℕ}
use native.Mathlib.Omega.{arith}
use lib.ListN.{replicate}
use Rattle.refusals.specs.After.{After}
use Rattle.refusals.proofs.Out.{goes-out}
use Rattle.tables.specs.Cost.{costed}
use Rattle.plans.specs.Calls.{on_table}
use Rattle.plans.specs.Words.{words_max}
use Rattle.plans.proofs.Tests.{on_fits, table-told, told-in}
use Rattle.planreaders.specs.Reading.{unread}
use Rattle.judges.specs.Judging.{judged_for}
use Rattle.judges.proofs.judge_table.Goals as goal
use Rattle.judges.proofs.judge_table.Goals.{In_ok-planning}

-- the words before our own plan
abbrev zeros : List ℕ
zeros = replicate words_max 0

pub returns-in_err-planning-clause-words_after : goal.returns-in_err-planning-clause-words_after
returns-in_err-planning-clause-words_after c =
    let a = c.args in
    let t = costed a.table.now a.cost in
    let planned = rw c.accepted.ensures at c.in_err-planning.ensures.words_after in
    let told = table-told (unread a.words.now) (judged_for a.plan.now a.words.now) zeros t (ap (λ (x : After (List ℕ)). x.answer) planned) c.in_err-planning.ensures.refusing in
    rw (goes-out _ _ c.from_residual.ensures.1) told

pub judge_plan-requires : goal.judge_plan-requires
judge_plan-requires c =
    let t = c.in_ok-planning.ensures.totalled in
    let told = told-in c.accepted.result zeros (costed c.args.table.now c.args.cost) refl t.table c.in_ok-planning.ensures.words_after in
    record { table = t.table; old = zeros; is = told.2; room = (let k = c.plan_table.auto.words in omega arith); work = t.work }

-- so the table is accepted, and the call is the judging of the plan
call : (c : In_ok-planning) → (let a = c.args in on_table (unread a.words.now) (judged_for a.plan.now a.words.now) (costed a.table.now a.cost) ≡ judged_for a.plan.now a.words.now (costed a.table.now a.cost))
call c =
    let a = c.args in
    let t = c.in_ok-planning.ensures.totalled.table in
    on_fits (unread a.words.now) (judged_for a.plan.now a.words.now) (costed a.table.now a.cost) t.free t.fits

pub returns-in_err-id-clause-words_after : goal.returns-in_err-id-clause-words_after
returns-in_err-id-clause-words_after c =
    rw (goes-out _ _ c.from_residual-in_err-id.ensures.1) (c.in_err-id.ensures ∙ sym (call (goal.at.returns-in_err-id-clause-words_after c).In_ok-planning))

pub returns-clause-words_after : goal.returns-clause-words_after
returns-clause-words_after c = c.in_ok-id.ensures ∙ sym (call (goal.at.returns-clause-words_after c).In_ok-planning)

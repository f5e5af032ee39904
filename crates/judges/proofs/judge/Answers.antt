-- `judges::judge` meets its contract: 26 first, then the reader's refusals, then the table that was read, which planning can take.
use mathlib.Core.Path.{sym, ◌∙◌}
use Prim.Native.Nat.{◌≤◌}
use Rattle.refusals.proofs.Out.{goes-out}
use Rattle.tables.specs.Limits.{cost_max}
use Rattle.plans.specs.Words.{words_max}
use Rattle.plans.proofs.Table.{read-plannable}
use Rattle.plans.proofs.Tests.{ready, task-out, task-table}
use Rattle.planreaders.specs.Reading.{unread}
use Rattle.judges.specs.Judging.{judged_for}
use Rattle.judges.proofs.Tests.{cost-out, cost-fits}
use Rattle.judges.proofs.judge.Goals as goal
use Rattle.judges.proofs.judge.Goals.{In_ok-before_reading}

pub returns-in_err-before_reading-clause-words_after : goal.returns-in_err-before_reading-clause-words_after
returns-in_err-before_reading-clause-words_after c =
    let a = c.args in
    rw (goes-out _ _ c.from_residual.ensures.1) (sym (cost-out a.bytes.now a.plan.now a.words.now a.cost (sym c.in_err-before_reading.ensures)))

fits : (c : In_ok-before_reading) → c.args.cost ≤ cost_max
fits c = (ready words_max c.args.cost (sym c.in_ok-before_reading.ensures)).0

pub returns-in_err-table-clause-words_after : goal.returns-in_err-table-clause-words_after
returns-in_err-table-clause-words_after c =
    let a = c.args in
    rw (goes-out _ _ c.from_residual-in_err-table.ensures.1)
    (sym (cost-fits a.bytes.now a.plan.now a.words.now a.cost (fits (goal.at.returns-in_err-table-clause-words_after c).In_ok-before_reading)
    ∙ task-out (unread a.words.now) (judged_for a.plan.now a.words.now) a.bytes.now a.cost c.in_err-table.ensures))

pub judge_table-requires : goal.judge_table-requires
judge_table-requires c = read-plannable c.args.bytes.now c.in_ok-table.ensures (fits (goal.at.judge_table-requires c).In_ok-before_reading)

pub returns-clause-words_after : goal.returns-clause-words_after
returns-clause-words_after c =
    let a = c.args in
    c.judge_table.ensures.words_after
    ∙ sym (cost-fits a.bytes.now a.plan.now a.words.now a.cost (fits (goal.at.returns-clause-words_after c).In_ok-before_reading)
    ∙ task-table (unread a.words.now) (judged_for a.plan.now a.words.now) a.bytes.now a.cost c.in_ok-table.ensures)

-- `graphs::Words::take_tasks` meets its contract. The loop's invariant: the reading has come to task i, with the tasks before it in the table.
use Rattle.std.proofs.Common.{sym, ◌∙◌}
use Rattle.graphs.proofs.Steps.{taken-out}
use Rattle.graphs.proofs.Along.{task-due, filled-more}
use Rattle.graphs.proofs.Words.take_tasks.Goals as goal

pub returns-in_err-task-clause-leads : goal.returns-in_err-task-clause-leads
returns-in_err-task-clause-leads c = let i = c.loop-i.invariant in taken-out _ _ _ c.from_residual.ensures.1
    (task-due i.0 c.loop-i-test.true ∙ rw (sym i.1) (c.in_err-task.ensures.leads _ i.0.count))

pub loop-i-preserved : goal.loop-i-preserved
loop-i-preserved c = let i = c.loop-i.invariant in (
  filled-more i.0 _ _ (task-due i.0 c.loop-i-test.true ∙ rw (sym i.1) (c.in_ok-task.ensures.leads _ i.0.count)),
  c.in_ok-task.ensures.text ∙ i.1,
)

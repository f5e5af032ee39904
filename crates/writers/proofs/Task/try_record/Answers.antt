-- `Task::try_record` meets its contract: a head that is refused stays what the trial comes to; one that came through has at most 64 nodes.
use mathlib.Core.Path.{sym, ◌∙◌}
use native.Mathlib.Omega.{arith}
use lib.ListN.{length}
use Rattle.tables.specs.Limits.{least_execution}
use Rattle.refusals.proofs.Out.{goes-out}
use Rattle.writers.specs.Inner.Trial.{head_tried}
use Rattle.writers.proofs.Cases.{nodes-none, nodes-stay, head_passed}
use Rattle.writers.proofs.Task.try_record.Goals as goal

pub returns-in_err-nodes_at : goal.returns-in_err-nodes_at
returns-in_err-nodes_at c = let a = c.args.self in
    goes-out _ _ c.from_residual.ensures.1
    ∙ sym (nodes-stay (least_execution a.edition) a.executions.now a.parents.now (head_tried a.edition a.id a.period (length a.executions.now)) 0 (length a.executions.now) _ (omega arith)
    (sym (nodes-none (least_execution a.edition) a.executions.now a.parents.now (head_tried a.edition a.id a.period (length a.executions.now))) ∙ sym c.in_err-nodes_at.ensures))

pub try_nodes-requires : goal.try_nodes-requires
try_nodes-requires c = let a = c.args.self in let h = head_passed a.edition a.id a.period _ _ (sym c.in_ok-nodes_at.ensures) in (h.count.1, h.near)

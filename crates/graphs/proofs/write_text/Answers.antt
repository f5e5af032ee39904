-- `graphs::write_text` meets its contract: the graph is the definition's, and the writer is handed its table.
use Rattle.std.proofs.Common.{sym, ap, ◌∙◌}
use Rattle.refusals.proofs.Out.{goes-out}
use Rattle.graphs.specs.declared.Graph.{Graph}
use Rattle.graphs.proofs.Calls.{call-refused, filling, call-put}
use Rattle.graphs.proofs.write_text.Goals as goal

pub returns-in_err-graph : goal.returns-in_err-graph
returns-in_err-graph c = let a = c.args in rw (goes-out _ _ c.from_residual.ensures.1)
    (sym (call-refused a.text.now a.bytes.now _ _ _ (ap (λ (x : Graph). x.outcome) (sym c.read_graph-graph.ensures) ∙ c.in_err-graph.was)))

pub write_table-requires : goal.write_table-requires
write_table-requires c = (filling _ c.args.bytes.now _ _ c.read_graph-graph.result c.read_graph-graph.ensures c.in_ok-graph.was).size.1

pub returns : goal.returns
returns c = sym (call-put _ _ _ _ c.read_graph-graph.result c.read_graph-graph.ensures c.in_ok-graph.was _ c.write_table.ensures.bytes_after)

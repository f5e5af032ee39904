-- `graphs::Words::take_table` meets its contract: the caller's id and period are tried first, the count is the word that is due, and the tasks after it are the rest.
use Rattle.std.proofs.Common.{rules, arith, ap, sym, ◌∙◌}
use Rattle.graphs.specs.Expected.Due.{count}
use Rattle.graphs.specs.Graph.{no_graph}
use Rattle.graphs.proofs.Cases.{begun-id, begun-period, begun-reading}
use Rattle.graphs.proofs.Steps.{taken-out, step-out, passed}
use Rattle.graphs.proofs.Words.take_table.Goals as goal

pub returns-then-not-contains-clause-leads : goal.returns-then-not-contains-clause-leads
returns-then-not-contains-clause-leads c = begun-id _ _ _ (search rules) ∙ ap (no_graph _) (sym c.at.ensures)

pub returns-then-not-contains-2-clause-leads : goal.returns-then-not-contains-2-clause-leads
returns-then-not-contains-2-clause-leads c = begun-period _ _ _ (search rules) (search rules) ∙ ap (no_graph _) (sym c.at-then-not-contains-2.ensures)

pub returns-in_err-count-clause-leads : goal.returns-in_err-count-clause-leads
returns-in_err-count-clause-leads c = taken-out _ _ _ c.from_residual.ensures.1
    (begun-reading _ _ _ (search rules) (search rules) ∙ step-out _ (count _ _) (omega arith) (omega arith) _ _ (rw c.requires at c.in_err-count.ensures.taken))

pub returns-clause-leads : goal.returns-clause-leads
returns-clause-leads c =
    begun-reading _ _ _ (search rules) (search rules)
    ∙ (passed _ (count _ _) (omega arith) (omega arith) _ _ (rw c.requires at c.in_ok-count.ensures.taken)).goes
    ∙ rw (c.in_ok-count.ensures.past, sym c.in_ok-count.ensures.text) (rw c.empty.ensures at c.take_tasks.ensures.leads)

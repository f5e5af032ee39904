-- `graphs::Words::take_predecessors` meets its contract. The loop's invariant: the reading has come to the predecessors still to be taken, and the set is that of those given.
use Rattle.std.proofs.Common.{◌≡◌, ◌-◌, Ok, refl, sym, ap, ◌∙◌}
use Rattle.refusals.specs.Numbers.{bad_parent}
use Rattle.graphs.specs.Graph.{no_graph}
use Rattle.graphs.specs.Inner.Taken.{number_taken}
use Rattle.graphs.proofs.Steps.{taken-out}
use Rattle.graphs.proofs.Predecessors.{given-none, given-out, given-again, given-more}
use Rattle.graphs.proofs.Words.take_predecessors.Goals as goal
use Rattle.graphs.proofs.Words.take_predecessors.Goals.{In_ok-number}

pub loop-init : goal.loop-init
loop-init c = (given-none _ _ _ _, refl)

pub returns-in_err-number-clause-leads : goal.returns-in_err-number-clause-leads
returns-in_err-number-clause-leads c t i time same = taken-out _ _ _ c.from_residual.ensures.1
    (given-out c.loop.invariant.0 c.requires.0 c.requires.1 c.loop-test.true c.in_err-number.field-0.0 (rw (sym c.loop.invariant.1) c.in_err-number.ensures.taken) t i time same)

-- the predecessor that a turn took
is : (c : In_ok-number) → (let a = c.args in
    Ok c.in_ok-number.number ≡ number_taken bad_parent 0 (a.n - 1) a.self.now.text.now c.loop.self.at)
is c = rw (sym c.loop.invariant.1) c.in_ok-number.ensures.taken

pub returns-then-is_member-clause-leads : goal.returns-then-is_member-clause-leads
returns-then-is_member-clause-leads c t i time same =
    given-again c.loop.invariant.0 c.requires.0 c.requires.1 (is (goal.at.returns-then-is_member-clause-leads c).In_ok-number) c.loop-test.true (sym c.is_member.ensures ∙ c.if-is_member.true) t i time same
    ∙ ap (no_graph _) (sym c.at.ensures)

pub loop-preserved : goal.loop-preserved
loop-preserved c = (
  rw (c.with_member-set.ensures, sym c.in_ok-number.ensures.past)
      (given-more c.loop.invariant.0 c.requires.0 c.requires.1 (is (goal.at.loop-preserved c).In_ok-number) c.loop-test.true (sym c.is_member.ensures ∙ c.if-is_member.false)),
  c.in_ok-number.ensures.text ∙ c.loop.invariant.1,
)

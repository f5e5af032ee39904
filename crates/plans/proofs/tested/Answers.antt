-- `plans::tested` meets its contract: the tests are made in the definition's order, and the last of them looks at what the others left, 11 or the later rules' own.
use mathlib.Core.Path.{ap, ◌∙◌}
use native.Mathlib.Omega.{arith}
use borrow.Author.Tests.{lt-ltb, le-ltb, eq-eqb, ne_eqb}
use Rattle.refusals.specs.declared.Answer.{Answer}
use Rattle.refusals.specs.Answer.{refused}
use Rattle.plans.proofs.tested.Goals as goal
use Rattle.plans.proofs.tested.Goals.{then-period-swept, else-period-swept}

pub returns-then-answer-ne0 : goal.returns-then-answer-ne0
returns-then-answer-ne0 c =
    let a = c.args in
    rw (le-ltb a.swept.done a.n (omega (arith, c.if-swept-n.false)))
    (elim c.if-period-swept.branch [
      | then-period-swept w ↦ rw (w.answer-is, w.refused-answer.ensures, w.at.ensures, lt-ltb a.period a.swept.cut.time w.if-period-swept.true)
      | else-period-swept w ↦ rw (w.answer-is, le-ltb a.period a.swept.cut.time w.if-period-swept.false, ne_eqb a.later.refusal 0 (rw w.answer-is at c.if-answer-ne0.true))
    ])

pub returns : goal.returns
returns c =
    let a = c.args in
    rw (le-ltb a.swept.done a.n (omega (arith, c.if-swept-n.false)))
    (elim c.if-period-swept.branch [
      | then-period-swept w ↦ absurd (let told = w.answer-is ∙ w.refused-answer.ensures ∙ ap refused w.at.ensures in omega (arith, ap (λ (x : Answer). x.refusal) told, c.if-answer-ne0.false))
      | else-period-swept w ↦ rw (le-ltb a.period a.swept.cut.time w.if-period-swept.false, eq-eqb a.later.refusal 0 (rw w.answer-is at c.if-answer-ne0.false))
    ])

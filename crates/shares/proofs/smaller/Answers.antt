-- `shares::smaller` meets its contract: it asks the definition's tests in their order, and the lesser of two is their minimum.
use borrow.Author.Tests.{eq-eqb, ne_eqb}
use Rattle.shares.specs.Figures.{smaller}
use Rattle.shares.proofs.smaller.Goals as goal

pub returns-in-0-default : goal.returns-in-0-default
unfolding smaller
returns-in-0-default c = rw (eq-eqb _ _ c.in-0-default.is-0)

pub returns-in_default-eq0 : goal.returns-in_default-eq0
unfolding smaller
returns-in_default-eq0 c = rw (ne_eqb _ _ c.in_default-eq0.is-0.1, eq-eqb _ _ c.in_default-eq0.is-1)

pub returns-in_default : goal.returns-in_default
unfolding smaller
returns-in_default c = rw (ne_eqb _ _ c.in_default.is-0.1, ne_eqb _ _ c.in_default.is-1.1, c.min.ensures)

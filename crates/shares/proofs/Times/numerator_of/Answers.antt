-- `shares::Times::numerator_of` meets its contract: the test picks the same product as the definition.
use mathlib.Core.Path.{sym, ◌∙◌}
use Rattle.shares.proofs.Deals.{numerator-heavy, numerator-light}
use Rattle.shares.proofs.Times.numerator_of.Goals as goal

pub returns-then-is_heavy : goal.returns-then-is_heavy
returns-then-is_heavy c = sym (numerator-heavy _ _ _ _ _ _ (sym c.is_heavy.ensures ∙ c.if-is_heavy.true))

pub returns-else-is_heavy : goal.returns-else-is_heavy
returns-else-is_heavy c = sym (numerator-light _ _ _ _ _ _ (sym c.is_heavy.ensures ∙ c.if-is_heavy.false))

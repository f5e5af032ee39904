-- `shares::millionths` meets its contract: the code is the definition's own test and division.
use mathlib.Core.Path.{sym}
use Rattle.shares.proofs.Densities.{undivided, divided}
use Rattle.shares.proofs.millionths.Goals as goal

pub returns-then-numerator-eq0 : goal.returns-then-numerator-eq0
returns-then-numerator-eq0 c = sym (undivided _ _ _ c.if-numerator-eq0.true)

pub returns : goal.returns
returns c = sym (divided _ _ _ c.if-numerator-eq0.false)

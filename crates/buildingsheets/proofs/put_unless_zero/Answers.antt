-- `buildingsheets::put_unless_zero` meets its contract: where n is 0 nothing is written.
use native.Mathlib.Omega.{arith}
use borrow.Author.Tests.{eq-eqb}
use Rattle.texts.proofs.Writes.{puts_none}
use Rattle.buildingsheets.proofs.put_unless_zero.Goals as goal

pub returns-else-n-ne0 : goal.returns-else-n-ne0
returns-else-n-ne0 c = rw (eq-eqb _ 0 c.if-n-ne0.false) (puts_none _ (omega (arith, c.requires.fits)))

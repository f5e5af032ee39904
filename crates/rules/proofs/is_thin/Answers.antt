-- `rules::is_thin` meets its contract: the quotients are compared in place of the products.
use Prim.Native.Nat.{◌*◌}
use native.Mathlib.Omega.{arith}
use Rattle.rules.proofs.Ceilings.{ceiling-test}
use Rattle.rules.proofs.is_thin.Goals as goal

pub returns : goal.returns
returns c = let a = c.args in ceiling-test a.piece (2 * a.work) a.whole a.numerator (omega arith)

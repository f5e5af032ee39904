-- `shares::Times::fill_numerators` meets its contract: after j turns the first j numerators stand, and threads and lengths are still those lent.
use mathlib.Core.Path.{◌≡◌}
use native.Mathlib.Omega.{arith}
use Rattle.shares.proofs.Numbering.{numbered_more}
use Rattle.shares.proofs.Times.fill_numerators.Goals as goal

pub loop-j-preserved : goal.loop-j-preserved
loop-j-preserved c = let i = c.loop-j.invariant in numbered_more _ (omega arith) c.numerator_of.ensures i

pub returns : goal.returns
returns c = let e : c.loop-j.j ≡ c.args.s = omega arith in rw (← e) c.loop-j.invariant

-- `shares::figures_of` meets its contract: the figures are those of the densities read, and 64 densities of at most 2,000,000 cannot wrap.
use mathlib.Core.Path.{refl}
use native.Mathlib.Omega.{arith}
use Rattle.plain.specs.Sums.{sum_to, max_to}
use Rattle.plain.proofs.Sums.{sum_to-more, max_to-more}
use Rattle.shares.proofs.figures_of.Goals as goal

pub loop-v-init : goal.loop-v-init
unfolding sum_to max_to
loop-v-init c = (omega arith, refl)

pub loop-v-preserved : goal.loop-v-preserved
loop-v-preserved c =
    let low = c.requires.by_index c.loop-v.v (omega arith) in
    (omega arith, rw (c.max.ensures, c.loop-v.invariant.1, sum_to-more, max_to-more))

-- `ways::weigh` meets its contract: after v turns work and longest are those of the first v weights, and 64 weights fit a word.
use mathlib.Core.Path.{◌≡◌, refl}
use native.Mathlib.Omega.{arith}
use Rattle.plain.specs.At.{at}
use Rattle.plain.specs.Sums.{sum_to, max_to}
use Rattle.plain.proofs.Sums.{sum_to-more, sum-under, max_to-more}
use Rattle.ways.specs.Inner.Weights.{weight_max}
use Rattle.ways.specs.Totals.{work_of, longest_of}
use Rattle.ways.proofs.Totals.{work-le}
use Rattle.ways.proofs.weigh.Goals as goal

pub loop-v-init : goal.loop-v-init
unfolding sum_to max_to
loop-v-init c = (refl, refl)

pub overflow_add-weighed : goal.overflow_add-weighed
unfolding work_of
overflow_add-weighed c =
    let f = at c.args.weights.now in
    let w = work-le c.args.weights.now c.args.n weight_max c.requires.1 c.requires.0 in
    omega (arith, sum-under f c.loop-v.v c.args.n (omega arith))

pub loop-v-preserved : goal.loop-v-preserved
loop-v-preserved c =
    let f = at c.args.weights.now in
    (omega (arith, sum_to-more c.loop-v.v f), omega (arith, max_to-more c.loop-v.v f))

pub returns : goal.returns
unfolding work_of longest_of
returns c = let l = c.loop-v in let e : l.v ≡ c.args.n = omega arith in (rw e at l.invariant.0, rw e at l.invariant.1)

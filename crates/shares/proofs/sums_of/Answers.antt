-- `shares::sums_of` meets its contract: after j turns entries 0 to j are the sums.
use mathlib.Core.Path.{sym}
use native.Mathlib.Omega.{arith}
use Rattle.plain.proofs.Lists.{fill-zeros, fill_more}
use Rattle.plain.proofs.Sums.{sum_to-none, sum_to-more, sum-under}
use Rattle.shares.specs.Words.{numerator_at}
use Rattle.shares.proofs.sums_of.Goals as goal

pub loop-j-init : goal.loop-j-init
loop-j-init c = fill_more 0 (omega arith) (sym (sum_to-none _)) (fill-zeros _ 65)

pub loop-j-preserved : goal.loop-j-preserved
loop-j-preserved c =
    let e = sum_to-more c.loop-j.j (numerator_at c.args.words.now) in
    let last = c.loop-j.invariant.done c.loop-j.j (omega arith) in
    fill_more _ (omega arith) (omega arith) c.loop-j.invariant

pub overflow_add-sums-in-loop-j : goal.overflow_add-sums-in-loop-j
overflow_add-sums-in-loop-j c =
    let last = c.loop-j.invariant.done c.loop-j.j (omega arith) in
    omega (arith, sum-under (numerator_at c.args.words.now) c.loop-j.j _ c.loop-j-test.true)

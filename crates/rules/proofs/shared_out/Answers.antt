-- `rules::shared_out` meets its contract: what is left and the numerators taken from it make up the whole.
use Rattle.rules.proofs.Rests.{rest_all, rest_more, rest-short}
use Rattle.rules.proofs.shared_out.Goals as goal

pub loop-j-init : goal.loop-j-init
loop-j-init c = rw c.over.ensures rest_all

pub returns-then-left-numerator : goal.returns-then-left-numerator
returns-then-left-numerator c =
    rest-short c.loop-j.invariant (rw c.segments-j-end.ensures at c.loop-j-test.true) (rw c.segment-numerator.ensures) c.if-left-numerator.true

pub loop-j-preserved : goal.loop-j-preserved
loop-j-preserved c =
    rest_more c.loop-j.invariant (rw c.segments-j-end.ensures at c.loop-j-test.true) (rw c.segment-numerator.ensures) c.if-left-numerator.false

-- `trials::first_broken` meets its contract: it tries the rules in their order, and the first that fails gives its number.
use Rattle.plain.proofs.Tests.{passed, failed}
use Rattle.plain.specs.Tests.{first_failed}
use Rattle.rules.specs.Rules.{first_broken}
use Rattle.trials.proofs.first_broken.Goals as goal

pub returns-then-not-over_fits : goal.returns-then-not-over_fits
unfolding first_broken first_failed
returns-then-not-over_fits c = rw (failed c.over_fits.ensures c.if-not-over_fits.true)

pub returns-then-not-same_cut : goal.returns-then-not-same_cut
unfolding first_broken first_failed
returns-then-not-same_cut c = rw (passed c.over_fits.ensures c.if-not-over_fits.false, failed c.same_cut.ensures c.if-not-same_cut.true)

pub returns-then-not-shared_out : goal.returns-then-not-shared_out
unfolding first_broken first_failed
returns-then-not-shared_out c = rw (passed c.over_fits.ensures c.if-not-over_fits.false, passed c.same_cut.ensures c.if-not-same_cut.false, failed c.shared_out.ensures c.if-not-shared_out.true)

pub returns-then-not-summed : goal.returns-then-not-summed
unfolding first_broken first_failed
returns-then-not-summed c = rw (passed c.over_fits.ensures c.if-not-over_fits.false, passed c.same_cut.ensures c.if-not-same_cut.false, passed c.shared_out.ensures c.if-not-shared_out.false, failed c.summed.ensures c.if-not-summed.true)

pub returns-then-not-followed : goal.returns-then-not-followed
unfolding first_broken first_failed
returns-then-not-followed c = rw (passed c.over_fits.ensures c.if-not-over_fits.false, passed c.same_cut.ensures c.if-not-same_cut.false, passed c.shared_out.ensures c.if-not-shared_out.false, passed c.summed.ensures c.if-not-summed.false, failed c.followed.ensures c.if-not-followed.true)

pub returns-then-not-halved : goal.returns-then-not-halved
unfolding first_broken first_failed
returns-then-not-halved c = rw (passed c.over_fits.ensures c.if-not-over_fits.false, passed c.same_cut.ensures c.if-not-same_cut.false, passed c.shared_out.ensures c.if-not-shared_out.false, passed c.summed.ensures c.if-not-summed.false, passed c.followed.ensures c.if-not-followed.false, failed c.halved.ensures c.if-not-halved.true)

pub returns-then-not-thinned : goal.returns-then-not-thinned
unfolding first_broken first_failed
returns-then-not-thinned c = rw (passed c.over_fits.ensures c.if-not-over_fits.false, passed c.same_cut.ensures c.if-not-same_cut.false, passed c.shared_out.ensures c.if-not-shared_out.false, passed c.summed.ensures c.if-not-summed.false, passed c.followed.ensures c.if-not-followed.false, passed c.halved.ensures c.if-not-halved.false, failed c.thinned.ensures c.if-not-thinned.true)

pub returns-then-not-rounded : goal.returns-then-not-rounded
unfolding first_broken first_failed
returns-then-not-rounded c = rw (passed c.over_fits.ensures c.if-not-over_fits.false, passed c.same_cut.ensures c.if-not-same_cut.false, passed c.shared_out.ensures c.if-not-shared_out.false, passed c.summed.ensures c.if-not-summed.false, passed c.followed.ensures c.if-not-followed.false, passed c.halved.ensures c.if-not-halved.false, passed c.thinned.ensures c.if-not-thinned.false, failed c.rounded.ensures c.if-not-rounded.true)

pub returns : goal.returns
unfolding first_broken first_failed
returns c = rw (passed c.over_fits.ensures c.if-not-over_fits.false, passed c.same_cut.ensures c.if-not-same_cut.false, passed c.shared_out.ensures c.if-not-shared_out.false, passed c.summed.ensures c.if-not-summed.false, passed c.followed.ensures c.if-not-followed.false, passed c.halved.ensures c.if-not-halved.false, passed c.thinned.ensures c.if-not-thinned.false, passed c.rounded.ensures c.if-not-rounded.false)

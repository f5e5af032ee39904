-- `rules::share_of` meets its contract: after j turns the time is where segment j begins, and the share is what the first j add.
use native.Mathlib.Omega.{arith}
use Rattle.rules.proofs.Asked.{given-low}
use Rattle.rules.proofs.Windows.{met-none, met-more, met_all, time-fits, share-fits}
use Rattle.rules.proofs.share_of.Goals as goal
use Rattle.rules.proofs.share_of.Goals.{then-runs_through, else-runs_through}

pub loop-j-init : goal.loop-j-init
loop-j-init c = met-none

pub overflow_add-end : goal.overflow_add-end
overflow_add-end c =
    let here = rw c.segments-j-end.ensures at c.loop-j-test.true in
    rw c.segment.ensures (omega (arith, time-fits c.loop-j.invariant here, c.requires.by_index.4.rules.whole-small))

pub overflow_add-share : goal.overflow_add-share
overflow_add-share c =
    let here = rw c.segments-j-end.ensures at c.loop-j-test.true in
    rw c.segment-share.ensures (omega (arith, share-fits c.loop-j.invariant here, given-low c.requires.by_index.4))

pub loop-j-preserved : goal.loop-j-preserved
loop-j-preserved c =
    let here = rw c.segments-j-end.ensures at c.loop-j-test.true in
    let through = rw (c.node-node.ensures, c.segment.ensures) at c.runs_through.ensures in
    rw c.segment.ensures
    (met-more c.loop-j.invariant here _ _ through
    (elim c.if-runs_through.branch [
      | then-runs_through w ↦ rw (w.share-is, w.segment-share.ensures, w.if-runs_through.true) (omega arith)
      | else-runs_through w ↦ rw (w.share-is, w.if-runs_through.false) (omega arith)
    ]))

pub returns : goal.returns
returns c = met_all c.loop-j.invariant (rw c.segments-j-end.ensures at c.loop-j-test.false)

-- `rings::Parents::ring` meets its contract: after each turn the set is the definition's after as many nodes.
use mathlib.Core.Path.{◌≡◌, sym, ◌∙◌}
use native.Mathlib.Omega.{arith}
use Rattle.rings.proofs.Round.{ring-none, ring_out, ring-kept}
use Rattle.rings.proofs.Parents.ring.Goals as goal
use Rattle.rings.proofs.Parents.ring.Goals.{else-goes_round, then-goes_round}

pub loop-k-init : goal.loop-k-init
loop-k-init c = c.requires.1 ∙ ring-none c.args.self.sets.now c.args.self.n c.args.node

pub loop-k-preserved : goal.loop-k-preserved
loop-k-preserved c =
    let a = c.args in
    let less = c.without_member-less.ensures in
    let round = c.goes_round.ensures in
    elim c.if-goes_round.branch [ then-goes_round o ↦ o.set-is ∙ ring_out a.self.sets.now a.self.n a.node c.loop-k.k c.loop-k.invariant less (sym round ∙ o.if-goes_round.true) | else-goes_round o ↦ o.set-is ∙ ring-kept a.self.sets.now a.self.n a.node c.loop-k.k c.loop-k.invariant less (sym round ∙ o.if-goes_round.false) ]

pub returns : goal.returns
returns c = let e : c.loop-k.k ≡ c.args.self.n = omega arith in rw e at c.loop-k.invariant

use Prim.Native.Nat.{◌-◌}
use Rattle.sets.specs.Size.{size_to}
use Rattle.rings.proofs.Taking.{Taking}
use Rattle.rings.proofs.Parents.goes_round.Given as goal

abbrev pub invariant-loop-left : goal.invariant-loop-left
invariant-loop-left l = Taking l.self.sets.now l.self.n l.set l.r l.met l.taken l.left

abbrev pub decreases-loop-left : goal.decreases-loop-left
decreases-loop-left l = 64 - size_to 64 l.taken

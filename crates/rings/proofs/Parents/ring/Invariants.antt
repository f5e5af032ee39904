use mathlib.Core.Path.{◌≡◌}
use Rattle.rings.specs.Ring.{ring_after}
use Rattle.rings.proofs.Parents.ring.Given as goal

abbrev pub invariant-loop-k : goal.invariant-loop-k
invariant-loop-k l = l.set ≡ ring_after l.self.sets.now l.self.n l.node l.k

use mathlib.Core.Path.{◌≡◌}
use Rattle.plain.specs.At.{at}
use Rattle.plain.specs.Sums.{sum_to, max_to}
use Rattle.ways.proofs.weigh.Given as goal

abbrev pub invariant-loop-v : goal.invariant-loop-v
invariant-loop-v l = (l.weighed.work ≡ sum_to l.v (at l.weights)) × (l.weighed.longest ≡ max_to l.v (at l.weights))

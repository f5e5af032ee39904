use mathlib.Core.Path.{◌≡◌}
use Prim.Native.Nat.{◌+◌, ◌*◌}
use Rattle.plain.specs.At.{at}
use Rattle.shares.specs.Figures.{smallest_to}
use Rattle.shares.proofs.shortest_of.Given as goal

abbrev pub invariant-loop-v : goal.invariant-loop-v
invariant-loop-v l = l.shortest ≡ smallest_to l.v (λ w. at l.nodes (3 * w + 1))

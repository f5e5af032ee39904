use mathlib.Core.Path.{◌≡◌}
use Prim.Native.Nat.{◌+◌, ◌*◌, ◌≤◌}
use Rattle.plain.specs.At.{at}
use Rattle.tables.specs.Limits.{density_max}
use Rattle.shares.specs.Figures.{figures}
use Rattle.shares.proofs.figures_of.Given as goal

abbrev pub invariant-loop-v : goal.invariant-loop-v
invariant-loop-v l = (l.figures.sum ≤ l.v * density_max) × (l.figures ≡ figures l.v (λ w. at l.nodes (3 * w + 2)))

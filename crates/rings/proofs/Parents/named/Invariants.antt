use mathlib.Core.Path.{◌≡◌}
use mathlib.Core.Bool.{true}
use Prim.Native.Nat.{ℕ, ◌<◌}
use Rattle.ways.specs.Closure.{goes_round}
use Rattle.rings.proofs.Parents.named.Given as goal

abbrev pub invariant-loop-v : goal.invariant-loop-v
invariant-loop-v l = (w : ℕ) → w < l.v → goes_round l.self.sets.now l.self.n w ≡ true → ⊥

use Prim.Native.Nat.{◌-◌, ◌^◌, ◌<◌}
use Rattle.sets.proofs.Runs.{Walked}
use Rattle.sets.proofs.last_of.Given as goal

abbrev pub invariant-loop-left : goal.invariant-loop-left
invariant-loop-left l = (l.left < 2 ^ 64) × Walked l.s l.left l.past

abbrev pub decreases-loop-left : goal.decreases-loop-left
decreases-loop-left l = 64 - l.past

use Prim.Native.Nat.{◌*◌}
use Rattle.plain.specs.At.{at}
use Rattle.shares.specs.Words.{numerator_at}
use Rattle.rules.proofs.Rests.{Rest}
use Rattle.rules.proofs.shared_out.Given as goal

abbrev pub invariant-loop-j : goal.invariant-loop-j
invariant-loop-j l = Rest (at l.fn.plan 1) (numerator_at l.fn.plan) (l.fn.period * at l.fn.plan 0) l.j l.left

use Prim.Native.Nat.{◌+◌}
use Rattle.plain.specs.Sums.{sum_to}
use Rattle.plain.proofs.Lists.{Filled}
use Rattle.shares.specs.Words.{numerator_at}
use Rattle.shares.proofs.sums_of.Given as goal

abbrev pub invariant-loop-j : goal.invariant-loop-j
invariant-loop-j l = Filled (λ i. sum_to i (numerator_at l.words)) (λ i. 0) 65 (l.j + 1) l.sums

use mathlib.Core.Path.{◌≡◌}
use Rattle.shares.specs.Words.{threads_at, length_at}
use Rattle.shares.specs.Inner.Kinds.{kinds}
use Rattle.shares.proofs.Times.kinds_of.Given as goal

abbrev pub invariant-loop-j : goal.invariant-loop-j
invariant-loop-j l = l.kinds ≡ kinds l.self.period l.self.work l.self.path l.j (threads_at l.words) (length_at l.words)

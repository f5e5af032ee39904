use Rattle.shares.specs.Inner.Written.{Numbered}
use Rattle.shares.proofs.Times.fill_numerators.Given as goal

abbrev pub invariant-loop-j : goal.invariant-loop-j
invariant-loop-j l = Numbered l.d l.self.period l.self.work l.self.path l.j l.initial.words l.words

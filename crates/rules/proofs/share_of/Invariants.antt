use Rattle.rules.proofs.Windows.{Met}
use Rattle.rules.proofs.share_of.Given as goal

abbrev pub invariant-loop-j : goal.invariant-loop-j
invariant-loop-j l = Met l.own.words.now l.plan.words.now l.v l.j l.begin l.share

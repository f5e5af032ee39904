use Rattle.std.proofs.Common.{◌≡◌}
use Rattle.graphs.proofs.Along.{Filled}
use Rattle.graphs.proofs.Words.take_tasks.Given as goal

abbrev pub invariant-loop-i : goal.invariant-loop-i
invariant-loop-i l = Filled l.initial.self.text.now l.initial.self.at l.head l.i l.table l.self.at × (l.self.text ≡ l.initial.self.text)

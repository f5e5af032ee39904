use Rattle.std.proofs.Common.{◌≡◌}
use Rattle.graphs.proofs.Predecessors.{Given}
use Rattle.graphs.proofs.Words.take_predecessors.Given as goal

abbrev pub invariant-loop : goal.invariant-loop
invariant-loop l = Given l.initial.self.text.now l.initial.self.at l.n l.count l.counter l.set l.self.at × (l.self.text ≡ l.initial.self.text)

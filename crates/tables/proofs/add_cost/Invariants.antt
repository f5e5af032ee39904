use Rattle.plain.specs.At.{at}
use Rattle.plain.proofs.Lists.{Filled}
use lib.ListN.{length}
use Rattle.tables.specs.Cost.{with_cost}
use Rattle.tables.proofs.add_cost.Given as goal

-- by the cost below the index, as it was from there on
abbrev pub invariant-loop-execution : goal.invariant-loop-execution
invariant-loop-execution l =
    let X = l.initial.execution-items in
    Filled (λ w. with_cost l.cost (at X w)) (at X) (length X) l.execution-index l.execution-items

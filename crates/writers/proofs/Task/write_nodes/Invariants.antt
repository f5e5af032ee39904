use mathlib.Core.Path.{◌≡◌}
use lib.ListN.{length}
use Rattle.numbers.specs.Number.{record_more}
use Rattle.numbers.proofs.Written.{Wrote}
use Rattle.writers.specs.Inner.Parts.{nodes_to}
use Rattle.writers.proofs.Task.write_nodes.Given as goal

abbrev pub invariant-loop-execution : goal.invariant-loop-execution
invariant-loop-execution l = let a = l.initial.out in
    Wrote record_more a.bytes.now a.at (nodes_to l.self.executions.now l.self.parents.now (length l.yielded)) l.out.bytes.now l.out.at
    × (l.out.bytes.ghost_name ≡ a.bytes.ghost_name)

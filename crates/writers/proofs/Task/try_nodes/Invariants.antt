use Prim.Native.Nat.{◌+◌, ◌*◌, ◌≤◌}
use mathlib.Core.Path.{◌≡◌}
use lib.ListN.{length}
use Rattle.writers.specs.Inner.Trial.{node_max, passed, nodes_tried}
use Rattle.writers.proofs.Task.try_nodes.Given as goal

abbrev pub invariant-loop-execution : goal.invariant-loop-execution
invariant-loop-execution l = let i = length l.yielded in
    (passed l.next ≡ nodes_tried l.least l.self.executions.now l.self.parents.now (passed l.from) i) × (l.next ≤ node_max + node_max * i)

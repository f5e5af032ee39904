use Prim.Native.Nat.{◌-◌}
use Rattle.segments.specs.Inner.Listed.{threads_of, enders_of}
use Rattle.diagrams.specs.Inner.Sweep.{Between}
use Rattle.sweeps.proofs.sweep.Given as goal

abbrev pub invariant-loop-begun : goal.invariant-loop-begun
invariant-loop-begun l =
    Between l.parents l.executions l.n (threads_of l.trace.segments) (enders_of l.trace.segments) l.trace.last l.done.head l.done.set l.cut.number l.cut.time l.list l.trace.finishes l.trace.first l.waits l.begun.tail l.begun.set l.done.woken

abbrev pub decreases-loop-begun : goal.decreases-loop-begun
decreases-loop-begun l =
    64 - l.done.head

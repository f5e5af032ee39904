use mathlib.Core.List.{List}
use Prim.Native.Nat.{ℕ, ◌^◌, ◌<◌}
use Rattle.diagrams.specs.Inner.Sweep.{Sweep}
use Rattle.sweeps.proofs.look.Given as goal

abbrev pub invariant-loop-v : goal.invariant-loop-v
invariant-loop-v l =
    (l.fn.done.set < 2 ^ 64) × ((n : ℕ) (c : ℕ → ℕ) (m en z : List ℕ) (head : ℕ)
    → Sweep l.parents l.executions n c m en z head l.fn.done.set l.cut.number l.cut.time l.initial.list l.initial.finishes l.initial.first l.initial.waits l.initial.tail l.initial.set l.fn.done.woken
    → Sweep l.parents l.executions n c m en z head l.fn.done.set l.cut.number l.cut.time l.list l.finishes l.first l.waits l.tail l.set l.v-iterator.left)

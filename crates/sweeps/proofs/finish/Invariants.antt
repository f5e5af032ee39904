use mathlib.Core.List.{List}
use Prim.Native.Nat.{ℕ}
use Rattle.diagrams.specs.Inner.Sweep.{Sweep}
use Rattle.sweeps.proofs.finish.Given as goal

abbrev pub invariant-loop-head : goal.invariant-loop-head
invariant-loop-head l =
    (P X : List ℕ) (n : ℕ) (c : ℕ → ℕ) (m en f : List ℕ) (started : ℕ)
    → Sweep P X n c m en l.initial.last l.initial.head l.initial.set l.cut.number l.cut.time l.list l.finishes f l.waits l.tail started 0
    → Sweep P X n c m en l.last l.head l.set l.cut.number l.cut.time l.list l.finishes f l.waits l.tail started l.woken

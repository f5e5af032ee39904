-- `sweeps::finish` meets its contract: each turn takes one step from state to state, and the first node has its turn where it finishes now.
use mathlib.Core.Path.{◌≡◌}
use Prim.Native.Nat.{◌≤◌, ◌<◌}
use native.Mathlib.Omega.{arith}
use Rattle.plain.specs.At.{at}
use Rattle.diagrams.proofs.Steps.{head-low, finish-one}
use Rattle.sweeps.proofs.finish.Goals as goal
use Rattle.sweeps.proofs.finish.Goals.{In-loop-head}

pub loop-head-init : goal.loop-head-init
loop-head-init c = λ P X n d m en f s i. i

-- the node that may finish now, and the cut's number, which fits a byte
low : (c : In-loop-head) → (c.loop-head.head < 64) × (at c.args.list.now c.loop-head.head < 64)
low c = head-low (c.loop-head.invariant _ _ _ _ _ _ _ _ c.requires.8) c.loop-head-test.true

few : (c : In-loop-head) → c.args.cut.number ≤ 64
few c = c.requires.8.cuts.few

pub bounds-list-head : goal.bounds-list-head
bounds-list-head c = (low (goal.at.bounds-list-head c).In-loop-head).0

pub returns-then-finishes-v-clause-by_index : goal.returns-then-finishes-v-clause-by_index
returns-then-finishes-v-clause-by_index c = c.loop-head.invariant

-- a node that finishes now is done
pub loop-head-preserved : goal.loop-head-preserved
loop-head-preserved c = λ P X n d m en f g i.
    rw c.with_member-set.ensures (finish-one (c.loop-head.invariant P X n d m en f g i) c.loop-head-test.true c.if-finishes-v.false)

pub returns-clause-by_index : goal.returns-clause-by_index
returns-clause-by_index c =
    let ends = c.loop-head.auto.head-end c.requires.8.queue.within in
    let e : c.loop-head.head ≡ c.args.tail = omega (arith, c.loop-head-test.false, ends) in
    λ P X n d m en f s i. rw e at (c.loop-head.invariant P X n d m en f s i)

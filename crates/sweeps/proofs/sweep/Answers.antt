-- `sweeps::sweep` meets its contract: a turn looks at who is left; where all that started are done, the run is at its end, and else the time
-- moves to the first finish, and all that finish there are taken off and leave who waited for them.
use mathlib.Core.Path.{refl}
use Prim.Native.Nat.{◌^◌, ◌<◌, zero-le}
use native.Mathlib.Omega.{arith}
use lib.ListN.{length-map}
use Rattle.plain.specs.At.{at}
use Rattle.segments.specs.Inner.Listed.{threads_of, enders_of}
use Rattle.diagrams.specs.Inner.Sweep.{Between}
use Rattle.diagrams.proofs.Steps.{sweep-none, looked, head-low, move-low, Onward, onward}
use Rattle.diagrams.proofs.Ending.{sweep-end}
use Rattle.sweeps.proofs.sweep.Goals as goal
use Rattle.sweeps.proofs.sweep.Goals.{After-finish-done, After-look-begun, After-move_on-cut, Else-begun-head}

pub nobody-done-requires : goal.nobody-done-requires
nobody-done-requires c = c.requires.fits

pub loop-begun-init : goal.loop-begun-init
loop-begun-init c = rw c.nobody-done.ensures (record { cut_at = _; few = zero-le; state = sweep-none c.requires (record { counts = simp length-map (omega arith); enders = simp length-map (omega arith); lasts = omega arith; ends = omega arith; firsts = omega arith }) refl refl })

pub look-begun-requires : goal.look-begun-requires
look-begun-requires c = (_, _, _, _, _, _, c.loop-begun.invariant.state)

-- the state after the look
seen : (c : After-look-begun)
    → (let a = c.args in let l = c.loop-begun in let k = c.look-begun.new in
    Between a.parents.now a.executions.now a.n (threads_of l.trace.segments) (enders_of l.trace.segments) l.trace.last l.done.head l.done.set l.cut.number l.cut.time k.list k.finishes k.first k.waits c.look-begun.result.tail c.look-begun.result.set 0)
seen c = let i = c.loop-begun.invariant in looked i (c.look-begun.ensures _ _ _ _ _ _ i.state)

pub returns-then-begun-head : goal.returns-then-begun-head
returns-then-begun-head c = sweep-end (seen (goal.at.returns-then-begun-head c).After-look-begun) c.if-begun-head.true

-- the first node that is not done
low : (c : Else-begun-head) → (let h = c.loop-begun.done.head in (h < 64) × (at c.look-begun.new.list h < 64))
low c = head-low (seen (goal.at-Else-begun-head c).After-look-begun).state c.if-begun-head.false

pub bounds-list-head : goal.bounds-list-head
bounds-list-head c = (head-low (seen (goal.at.bounds-list-head c).After-look-begun).state c.if-begun-head.false).0

pub move_on-cut-requires : goal.move_on-cut-requires
move_on-cut-requires c = (move-low (seen (goal.at.move_on-cut-requires c).After-look-begun) c.if-begun-head.false, (low (goal.at.move_on-cut-requires c).Else-begun-head).1)

-- after the next call the time is that of its finish
on : (c : After-move_on-cut)
    → Onward (seen (goal.at-After-move_on-cut c).After-look-begun) c.if-begun-head.false (threads_of c.move_on-cut.new.segments) (enders_of c.move_on-cut.new.segments) c.move_on-cut.result.number c.move_on-cut.result.time
on c =
    let w : c.loop-begun.done.set < 2 ^ 64 = omega arith in
    onward (seen (goal.at-After-move_on-cut c).After-look-begun) c.if-begun-head.false w c.move_on-cut.ensures

pub finish-done-requires : goal.finish-done-requires
finish-done-requires c = (_, _, _, _, _, _, _, _, (on (goal.at.finish-done-requires c).After-move_on-cut).state)

-- and at least that node is done
further : (c : After-finish-done) → c.loop-begun.done.head < c.finish-done.result.head
further c = c.finish-done.ensures.head_lt_head c.if-begun-head.false (on (goal.at-After-finish-done c).After-move_on-cut).time

pub loop-begun-smaller : goal.loop-begun-smaller
loop-begun-smaller c = omega (arith, further (goal.at.loop-begun-smaller c).After-finish-done, (low (goal.at.loop-begun-smaller c).Else-begun-head).0)

pub loop-begun-preserved : goal.loop-begun-preserved
loop-begun-preserved c =
    let o = on (goal.at.loop-begun-preserved c).After-move_on-cut in
    record {
      cut_at = o.cut_at;
      few = omega (arith, o.few, further (goal.at.loop-begun-preserved c).After-finish-done);
      state = c.finish-done.ensures.by_index _ _ _ _ _ _ _ _ o.state;
    }

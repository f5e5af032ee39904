-- `sweeps::look` meets its contract: each turn takes one step from state to state, and one node fewer is left.
use Prim.Native.Nat.{◌+◌, ◌^◌, ◌≤◌, ◌<◌}
use native.Mathlib.Omega.{arith}
use Rattle.plain.specs.At.{at}
use Rattle.sets.proofs.Words.{missing}
use Rattle.diagrams.proofs.Steps.{look-room, look-fits, look-put, look-starts, look-waits}
use mathlib.Core.Path.{ap, ◌∙◌}
use Rattle.sweeps.proofs.look.Goals as goal
use Rattle.sweeps.proofs.look.Goals.{In-Some}

pub loop-v-init : goal.loop-v-init
loop-v-init c =
    let all = ap (λ m. m.left) c.into_iter-v-iterator.ensures.into_iter_gives ∙ c.of-v-items.ensures in
    (omega arith, λ n d m en z head i. rw all i)

-- the queue has room for the node that is looked at, its finish fits a word, and the cut's number a byte
room : (c : In-Some) → c.loop-v.tail < 64
room c = look-room (c.loop-v.invariant.1 _ _ _ _ _ _ c.requires.6) c.in-Some.ensures.steps

fits : (c : In-Some) → c.args.cut.time + at c.args.executions.now c.in-Some.v < 2 ^ 64
fits c = look-fits (c.loop-v.invariant.1 _ _ _ _ _ _ c.requires.6) c.in-Some.ensures.steps

few : (c : In-Some) → c.args.cut.number ≤ 64
few c = c.requires.6.cuts.few

-- it starts
pub loop-v-preserved-then-missing-eq0 : goal.loop-v-preserved-then-missing-eq0
loop-v-preserved-then-missing-eq0 c = let s = c.loop-v.invariant in (
  s.0,
  λ n d m en z head i. rw c.with_member-set.ensures (look-starts (s.1 n d m en z head i) c.in-Some.ensures.steps s.0 c.if-missing-eq0.true c.put.ensures.1),
)

-- or waits for the last parent that is missing
pub loop-v-preserved : goal.loop-v-preserved
loop-v-preserved c = let g = c.last_of-p.ensures in let s = c.loop-v.invariant in (
  s.0,
  λ n d m en z head i.
      let p = missing _ _ _ g.low s.0 g.mem in
      rw c.with_member.ensures (look-waits (s.1 n d m en z head i) c.in-Some.ensures.steps g.low p.0 p.1),
)

pub returns : goal.returns
returns c = λ n d m en z head i. rw c.in-None.ensures.steps at (c.loop-v.invariant.1 n d m en z head i)

pub overflow_add-finishes : goal.overflow_add-finishes
overflow_add-finishes c = omega (arith, fits (goal.at.overflow_add-finishes c).In-Some)

pub put-requires : goal.put-requires
put-requires c = look-put (c.loop-v.invariant.1 _ _ _ _ _ _ c.requires.6) c.in-Some.ensures.steps

pub overflow_add-tail : goal.overflow_add-tail
overflow_add-tail c = omega (arith, room (goal.at.overflow_add-tail c).In-Some)

-- `rules::parents_end` meets its contract: the greatest so far, and the greatest of the parents that are left, make the greatest of all.
use Prim.Native.Nat.{◌<◌}
use mathlib.Core.Path.{ap, ◌∙◌}
use Rattle.plain.specs.At.{at}
use Rattle.sets.proofs.Bits.{mem-lt}
use Rattle.rules.proofs.Lowest.{left-all, left_less, left-none}
use Rattle.rules.proofs.parents_end.Goals as goal
use Rattle.rules.proofs.parents_end.Goals.{In-Some}

pub loop-p-init : goal.loop-p-init
loop-p-init c = let all = ap (λ m. m.left) c.into_iter-p-iterator.ensures.into_iter_gives ∙ c.of-p-items.ensures in rw all (left-all c.requires.1)

-- the lowest that is left is a node
node : (c : In-Some) → c.in-Some.p < at c.args.plan.words.now 2
node c = mem-lt _ _ _ c.loop-p.invariant.below c.in-Some.ensures.steps.mem

pub node-parent-requires : goal.node-parent-requires
node-parent-requires c = node (goal.at.node-parent-requires c).In-Some

pub loop-p-preserved : goal.loop-p-preserved
loop-p-preserved c =
    let w = c.in-Some.ensures.steps in
    left_less c.loop-p.invariant _ _ _ (node (goal.at.loop-p-preserved c).In-Some) w.mem w.out (rw c.node-parent.ensures at c.max-latest.ensures)

pub returns : goal.returns
returns c = left-none c.loop-p.invariant c.in-None.ensures.steps

-- `writers::try_node` meets its contract: its three trials follow each other as in `node_tried`, the first refusal stays, and none of them goes far.
use mathlib.Core.Path.{ap, ap₂, ◌∙◌}
use native.Mathlib.Omega.{arith}
use Rattle.refusals.specs.Numbers.{bad_parent}
use Rattle.sets.specs.Size.{size}
use Rattle.refusals.proofs.Out.{goes-out}
use Rattle.writers.specs.Inner.Trial.{Trial, tried, parents_tried}
use Rattle.writers.proofs.Cases.{tried-next}
use Rattle.writers.proofs.try_node.Goals as goal

pub returns-in_err-count_at : goal.returns-in_err-count_at
unfolding tried parents_tried
returns-in_err-count_at c = let a = c.args in
    goes-out _ _ c.from_residual.ensures.1 ∙ ap (λ (r : Trial). parents_tried a.n a.set (tried bad_parent 0 a.n (size a.set) r)) c.in_err-count_at.ensures

pub try_number-requires-2 : goal.try_number-requires-2
try_number-requires-2 c = omega (arith, tried-next _ _ _ _ _ _ c.in_ok-count_at.ensures)

pub returns-in_err-parents_at : goal.returns-in_err-parents_at
unfolding parents_tried
returns-in_err-parents_at c = let a = c.args in
    goes-out _ _ c.from_residual-in_err-parents_at.ensures.1
    ∙ ap (parents_tried a.n a.set) (c.in_err-parents_at.ensures ∙ ap₂ (tried bad_parent 0 a.n) c.size_of.ensures c.in_ok-count_at.ensures)

pub try_parents-requires : goal.try_parents-requires
try_parents-requires c = (omega (arith, tried-next _ _ _ _ _ _ c.in_ok-count_at.ensures, tried-next _ _ _ _ _ _ c.in_ok-parents_at.ensures), c.requires.1)

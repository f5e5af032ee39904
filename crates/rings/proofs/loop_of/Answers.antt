-- `rings::loop_of` meets its contract: the node is the one that is named, a node of the task, and the set is its ring.
use mathlib.Core.Path.{ap, ap₂, ◌∙◌}
use Rattle.refusals.specs.Refusal.{looped}
use Rattle.rings.specs.Ring.{ring}
use Rattle.rings.proofs.Round.{named-first}
use Rattle.rings.proofs.loop_of.Goals as goal

pub returns : goal.returns
returns c =
    let a = c.args in
    let node = c.named-node.ensures in
    c.looped.ensures ∙ ap₂ looped node (c.ring-ring.ensures ∙ ap (ring a.parents.now a.n) node)

pub all_below-all-requires : goal.all_below-all-requires
all_below-all-requires c = c.requires.0

pub named-node-requires : goal.named-node-requires
named-node-requires c = (c.all_below-all.ensures, c.requires.2)

pub ring-ring-requires : goal.ring-ring-requires
ring-ring-requires c = let a = c.args in (rw c.named-node.ensures (named-first a.parents.now a.n c.requires.2).within, c.all_below-all.ensures)

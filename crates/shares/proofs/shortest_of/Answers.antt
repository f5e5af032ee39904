-- `shares::shortest_of` meets its contract: the shortest is the smallest of the deadlines read.
use mathlib.Core.Path.{sym}
use Prim.Native.Nat.{◌+◌, ◌*◌}
use Rattle.plain.specs.At.{at}
use Rattle.shares.proofs.Smallest.{smallest-none, smallest-more}
use Rattle.shares.proofs.shortest_of.Goals as goal

pub loop-v-init : goal.loop-v-init
loop-v-init c = sym (smallest-none _)

pub loop-v-preserved : goal.loop-v-preserved
loop-v-preserved c =
    rw (smallest-more c.loop-v.v (λ w. at c.args.nodes.now (3 * w + 1)), ← c.loop-v.invariant) c.smaller-shortest.ensures

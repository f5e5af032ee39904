-- `shares::fill_nodes` meets its contract: the triples written so far stand in front of the old words.
use mathlib.Core.Path.{refl}
use native.Mathlib.Omega.{arith}
use Rattle.shares.proofs.Triples.{tripled-none, tripled-more}
use Rattle.shares.proofs.fill_nodes.Goals as goal

pub loop-v-init : goal.loop-v-init
loop-v-init c = tripled-none

pub loop-v-preserved : goal.loop-v-preserved
loop-v-preserved c = tripled-more _ _ _ c.loop-v.invariant (omega arith) refl refl c.millionths.ensures

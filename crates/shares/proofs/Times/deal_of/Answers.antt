-- `shares::Times::deal_of` meets its contract: the two tests on the count are those of the definition, and H and L are within work and path.
use mathlib.Core.Path.{sym}
use native.Mathlib.Omega.{arith}
use Rattle.shares.proofs.Deals.{deal-heavy, deal-light, deal-both}
use Rattle.shares.proofs.Fair.{heavy-whole, light-whole}
use Rattle.shares.proofs.Times.deal_of.Goals as goal

pub overflow_mul-result : goal.overflow_mul-result
overflow_mul-result c = rw c.kinds_of-kinds.ensures (omega (arith, c.requires.work, heavy-whole c.requires.segmented))

pub overflow_sub-result : goal.overflow_sub-result
overflow_sub-result c = rw c.kinds_of-kinds.ensures (omega (arith, light-whole c.requires.segmented))

pub returns-then-kinds-s : goal.returns-then-kinds-s
returns-then-kinds-s c = let e = c.kinds_of-kinds.ensures in sym (deal-heavy _ _ _ _ _ _ (rw e at c.if-kinds-s.true))

pub returns-then-kinds-eq0 : goal.returns-then-kinds-eq0
returns-then-kinds-eq0 c =
    let e = c.kinds_of-kinds.ensures in
    sym (deal-light _ _ _ _ _ _ (rw e at c.if-kinds-s.false) (rw e at c.if-kinds-eq0.true))

pub returns-else-kinds-eq0 : goal.returns-else-kinds-eq0
returns-else-kinds-eq0 c =
    let e = c.kinds_of-kinds.ensures in
    rw e (sym (deal-both _ _ _ _ _ _ (rw e at c.if-kinds-s.false) (rw e at c.if-kinds-eq0.false)))

-- `buildingsheets::put_numbers` meets its contract: after k turns the lines of the first k numbers are written.
use native.Mathlib.Nat.{le_antisymm}
use Rattle.sheets.proofs.Sheets.{lines_none, lines_more, lines-room}
use Rattle.buildingsheets.proofs.put_numbers.Goals as goal

pub loop-k-init : goal.loop-k-init
loop-k-init c = lines_none _ _ c.requires

pub put_unless_zero-requires : goal.put_unless_zero-requires
put_unless_zero-requires c = lines-room _ _ _ c.loop-k-test.true c.requires c.loop-k.invariant

pub loop-k-preserved : goal.loop-k-preserved
loop-k-preserved c = lines_more _ _ c.loop-k.invariant c.put_unless_zero.ensures

pub returns : goal.returns
returns c = rw (le_antisymm c.loop-k.auto.k-end c.loop-k-test.false) at c.loop-k.invariant

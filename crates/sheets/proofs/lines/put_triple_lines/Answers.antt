-- `sheets::lines::put_triple_lines` meets its contract: after k turns the lines of the first k triples are written.
use native.Mathlib.Nat.{le_antisymm}
use Rattle.sheets.proofs.Sheets.{lines_none, lines_more, lines-room}
use Rattle.sheets.proofs.lines.put_triple_lines.Goals as goal

pub loop-k-init : goal.loop-k-init
loop-k-init c = lines_none _ _ c.requires.room

pub put_triple_line-requires : goal.put_triple_line-requires
put_triple_line-requires c =
    rw c.triple_at.ensures (lines-room _ _ _ c.loop-k-test.true c.requires.room c.loop-k.invariant)

pub loop-k-preserved : goal.loop-k-preserved
loop-k-preserved c = lines_more _ _ c.loop-k.invariant (rw c.triple_at.ensures at c.put_triple_line.ensures)

pub returns : goal.returns
returns c = rw (le_antisymm c.loop-k.auto.k-end c.loop-k-test.false) at c.loop-k.invariant

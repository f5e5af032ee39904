-- `overheads::overhead_of` meets its contract. The loop's invariant: the overhead is the greatest quotient of the rows passed; over all rows that
-- is the quotient over the shortest deadline.
use Rattle.std.proofs.Common.{◌≡◌, sym, arith}
use Rattle.plain.proofs.Sums.{max_to-none, max_to-more}
use Rattle.boards.specs.Row.{rows_max, row_at}
use Rattle.boards.proofs.Sound.{sound-test}
use Rattle.overheads.specs.ToEnd.{deadline_in}
use Rattle.overheads.proofs.Overhead.{quotient, quotient-in, row-longest-le, longest_of-le, overhead-is}
use Rattle.overheads.proofs.overhead_of.Goals as goal

pub loop-row-init : goal.loop-row-init
loop-row-init c = sym (max_to-none _)

-- the quotient fits of the longest execution, and of any that a sound row has
pub millionths-quotient-requires : goal.millionths-quotient-requires
millionths-quotient-requires c =
    let s = sound-test c.args.asking.board.now.rows c.args.asking.sound in
    quotient-in s (omega (arith, longest_of-le s, row-longest-le s c.loop-row.row-index (omega arith))) c.loop-row.row-index (omega arith)

pub loop-row-preserved : goal.loop-row-preserved
loop-row-preserved c =
    let most = max_to-more c.loop-row.row-index (λ i. quotient c.peaks_of-longest.result.longest (deadline_in (row_at c.args.asking.board.now.rows i))) in
    let own = c.millionths-quotient.ensures in
    omega arith

pub returns : goal.returns
returns c =
    let end : c.loop-row.row-index ≡ rows_max = omega arith in
    rw (overhead-is (sound-test c.args.asking.board.now.rows c.args.asking.sound), ← c.peaks_of-longest.ensures.1) (rw end at c.loop-row.invariant)

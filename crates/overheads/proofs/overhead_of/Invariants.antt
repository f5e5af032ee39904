use Rattle.std.proofs.Common.{◌≡◌}
use Rattle.plain.specs.Sums.{max_to}
use Rattle.boards.specs.Row.{row_at}
use Rattle.overheads.specs.ToEnd.{deadline_in}
use Rattle.overheads.proofs.Overhead.{quotient}
use Rattle.overheads.proofs.overhead_of.Given as goal

abbrev pub invariant-loop-row : goal.invariant-loop-row
invariant-loop-row l = l.overhead ≡ max_to l.row-index (λ i. quotient l.longest (deadline_in (row_at l.asking.board.now.rows i)))

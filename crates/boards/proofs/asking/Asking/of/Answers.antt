-- `boards::Asking::of` meets its contract: 17 and 15 as they come; where neither is given, the board is sound and the core count in its range.
use Rattle.std.proofs.Common.{◌≡◌, sym}
use Rattle.std.specs.Prelude.{Ok}
use Rattle.boards.specs.Sound.{is_sound}
use Rattle.boards.specs.Change.{before_asking}
use Rattle.boards.proofs.Cases.{may-ask}
use Rattle.boards.proofs.Sound.{test-sound}
use Rattle.boards.proofs.asking.Asking.of.Goals as goal

pub invariant_of-result : goal.invariant_of-result
invariant_of-result c =
    let first : before_asking (is_sound c.args.board.now.rows) c.args.cores ≡ Ok tt = rw c.is_sound.ensures at (sym c.in_ok-before_asking.ensures) in
    let may = may-ask c.args.board.now.rows c.args.cores first in
    record { sound = test-sound may.0; in_range = may.1 }

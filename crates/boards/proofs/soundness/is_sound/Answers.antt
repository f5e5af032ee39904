-- `boards::soundness::is_sound` meets its contract: both halves are the test of a board.
use Rattle.std.proofs.Common.{sym, ◌∙◌, arith}
use Rattle.plain.proofs.Tests.{pick_yes, pick_no}
use Rattle.boards.proofs.Halves.{halves}
use Rattle.boards.proofs.soundness.is_sound.Goals as goal

pub returns-then-densities_sound : goal.returns-then-densities_sound
returns-then-densities_sound c =
    pick_yes _ (sym c.densities_sound.ensures ∙ c.if-densities_sound.true) c.times_sound.ensures ∙ halves c.args.board.now.rows (omega arith)

pub returns-else-densities_sound : goal.returns-else-densities_sound
returns-else-densities_sound c =
    pick_no _ (sym c.densities_sound.ensures ∙ c.if-densities_sound.false) c.if-densities_sound.false ∙ halves c.args.board.now.rows (omega arith)

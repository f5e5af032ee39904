-- On no board of 16 rows the call is refused as its rule says, and the words and the rows stay.
use Rattle.planner.proofs.NoBoard.{note-none}
use Rattle.planner.proofs.planner_note.Goals as goal

pub returns-in_default : goal.returns-in_default
returns-in_default c = rw (c.refused.ensures, c.no_board.ensures) (note-none c.args.bytes.now c.args.words.now c.args.board.now c.args.cost c.in_default.ensures)

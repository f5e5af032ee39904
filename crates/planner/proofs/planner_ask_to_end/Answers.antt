-- On no board of 16 rows the call is refused as its rule says, and the rows stay.
use Rattle.planner.proofs.NoBoard.{ask-to-end-none}
use Rattle.planner.proofs.planner_ask_to_end.Goals as goal

pub returns-in_default : goal.returns-in_default
returns-in_default c = rw (c.refused.ensures, c.unsound.ensures) (ask-to-end-none c.args.board.now c.args.cores c.in_default.ensures)

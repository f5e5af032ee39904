-- `boards::soundness::times_sound` meets its contract: it asks each row, of which there are 16.
use Rattle.std.proofs.Common.{◌∙◌, rules, arith}
use borrow.Author.Tests.{tests}
use Rattle.std.proofs.lemmas.Iterator.{YieldsList-from_slice}
use Rattle.std.proofs.lemmas.Iterator.Search.{all_from_yields_List}
use Rattle.boards.specs.Row.{free_row, rows_max}
use Rattle.boards.specs.Inner.Halves.{times_fit}
use Rattle.boards.proofs.Walks.{all-walked}
use Rattle.boards.proofs.soundness.times_sound.Goals as goal

pub returns : goal.returns
returns c =
    let rows = c.args.board.now.rows in
    all_from_yields_List times_fit _ _ _ c.all.ensures.ran (YieldsList-from_slice rows cc) (λ x b q k. search (rules, tests)) ∙ all-walked rows free_row times_fit rows_max (omega arith)

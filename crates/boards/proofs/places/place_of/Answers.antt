-- `boards::places::place_of` meets its contract: the first position of the id is its place, where there is one.
use Rattle.std.proofs.Common.{◌∙◌, rules, arith}
use borrow.Author.Tests.{tests}
use lib.Dec.{eqb}
use Rattle.std.proofs.lemmas.Iterator.{YieldsList-from_slice}
use Rattle.std.proofs.lemmas.Iterator.Search.{position_from_yields_List}
use Rattle.boards.specs.declared.Row.{Row}
use Rattle.boards.proofs.Find.{position-place}
use Rattle.boards.proofs.places.place_of.Goals as goal

pub returns : goal.returns
returns c =
    let rows = c.args.board.now.rows in
    position_from_yields_List (λ (r : Row). eqb r.id c.args.id) _ _ _ c.position.ensures.ran (YieldsList-from_slice rows cc) (λ x b q k. search (rules, tests)) ∙ position-place c.args.id rows (omega arith)

-- `boards::verdicts::peaks_of` meets its contract: either walk finds the greatest of all rows, and 0 is below each.
use Rattle.std.proofs.Common.{ap, ◌∙◌, rules, arith, unwrap_or}
use Rattle.std.proofs.lemmas.Iterator.{YieldsList-from_slice, YieldsList-from_map}
use Rattle.std.proofs.lemmas.Iterator.Consumers.{reduce_from_yields_List}
use Rattle.std.proofs.lemmas.List.Folds.{max_of_map}
use borrow.Author.Tests.{tests}
use Rattle.boards.specs.declared.Row.{Row}
use Rattle.boards.specs.Row.{free_row, rows_max}
use Rattle.boards.specs.Verdict.{largest_of, longest_of}
use Rattle.boards.proofs.Walks.{max-walked}
use Rattle.boards.proofs.verdicts.peaks_of.Goals as goal

pub returns : goal.returns
unfolding largest_of longest_of
returns c =
    let rows = c.args.board.now.rows in (
      c.unwrap_or-largest.ensures
          ∙ ap (λ o. unwrap_or o 0) (reduce_from_yields_List _ c.map.result _ c.max.ensures.ran (YieldsList-from_map _ (λ (r : Row). r.largest) (YieldsList-from_slice rows cc) c.map.ensures.closure (λ x b q k. search (rules, tests))))
          ∙ max_of_map (λ (r : Row). r.largest) rows
          ∙ max-walked rows free_row (λ (r : Row). r.largest) rows_max (omega arith),
      c.unwrap_or-longest.ensures
          ∙ ap (λ o. unwrap_or o 0) (reduce_from_yields_List _ c.map-2.result _ c.max-2.ensures.ran (YieldsList-from_map _ (λ (r : Row). r.longest) (YieldsList-from_slice rows cc) c.map-2.ensures.closure (λ x b q k. search (rules, tests))))
          ∙ max_of_map (λ (r : Row). r.longest) rows
          ∙ max-walked rows free_row (λ (r : Row). r.longest) rows_max (omega arith),
    )

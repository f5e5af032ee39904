-- `boards::verdicts::sum_of` meets its contract: the sum is that of all rows, which fits a word, because a sound row's sum is at most 64 densities.
use Rattle.std.proofs.Common.{◌≡◌, ◌∙◌, ◌<◌, ◌^◌, rules, arith}
use Rattle.std.specs.List.{sum_by}
use Rattle.std.proofs.iter.runs.Made.{chains}
use Rattle.boards.specs.declared.Row.{Row}
use Rattle.boards.specs.Row.{free_row, rows_max}
use Rattle.boards.specs.Verdict.{sum_of}
use Rattle.boards.proofs.Walks.{sum-walked}
use Rattle.boards.proofs.Sound.{sums-fit}
use Rattle.boards.proofs.verdicts.sum_of.Goals as goal

pub sum-requires-clause-fits : goal.sum-requires-clause-fits
sum-requires-clause-fits c =
    let fits : sum_by (λ (r : Row). r.sum) c.args.board.now.rows < 2 ^ 64 = sums-fit c.requires in
    search (rules, chains)

pub returns : goal.returns
unfolding sum_of
returns c =
    let rows = c.args.board.now.rows in
    let e : c.sum.result ≡ sum_by (λ (r : Row). r.sum) rows = search (rules, chains) in
    e ∙ sum-walked rows free_row (λ (r : Row). r.sum) rows_max (omega arith)

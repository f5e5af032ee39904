-- `sheets::put_table` meets its contract: a refused table gives its line, and an accepted one the sheet of its written plan.
use mathlib.Core.Path.{◌≡◌, refl, sym, ap, ◌∙◌}
use mathlib.Core.List.{List}
use Prim.Native.Nat.{ℕ}
use lib.ListN.{replicate}
use native.Mathlib.Omega.{arith}
use Rattle.refusals.specs.After.{After}
use Rattle.tables.specs.Cost.{costed}
use Rattle.plans.specs.Words.{words_max, written}
use Rattle.plans.specs.Inner.Drawn.{Totalled}
use Rattle.plans.proofs.Tests.{on_fits, told-in, table-told}
use Rattle.sheets.specs.Lines.{refused_line}
use Rattle.sheets.specs.Printed.{table_sheet, sheet_cost}
use Rattle.sheets.proofs.Printing.{puts-same, printable}
use Rattle.sheets.proofs.put_table.Goals as goal
use Rattle.sheets.proofs.put_table.Goals.{In-Ok}

-- the words before the plan
abbrev zeros : List ℕ
zeros = replicate words_max 0

pub plan_table-requires : goal.plan_table-requires
plan_table-requires c = (c.requires.plannable, omega arith)

-- an accepted table has a plan, which stands in the words
totals : (c : In-Ok) → Totalled (costed c.args.table.now sheet_cost) c.in-Ok.planning
totals c = c.in-Ok.ensures.totalled

words : (c : In-Ok) → c.plan_table.new.words ≡ written (costed c.args.table.now sheet_cost) zeros
words c = (told-in c.accepted.result zeros (costed c.args.table.now sheet_cost) refl (totals c).table c.in-Ok.ensures.words_after).2

pub put_sheet-requires-clause-printable : goal.put_sheet-requires-clause-printable
put_sheet-requires-clause-printable c =
    let known = (goal.at.put_sheet-requires-clause-printable c).In-Ok in printable (totals known).table zeros (omega arith) (words known)

pub returns-in-Ok : goal.returns-in-Ok
returns-in-Ok c =
    let known = (goal.at.returns-in-Ok c).In-Ok in
    let told = totals known in
    puts-same
    (rw (told.work, told.path, words known) (sym (on_fits refused_line table_sheet (costed c.args.table.now sheet_cost) told.table.free told.table.fits)))
    c.put_sheet.ensures

pub returns-in-Err : goal.returns-in-Err
returns-in-Err c =
    let planned = rw c.accepted.ensures at c.in-Err.ensures.words_after in
    let told = table-told refused_line table_sheet zeros (costed c.args.table.now sheet_cost) (ap (λ (x : After (List ℕ)). x.answer) planned) c.in-Err.ensures.refusing in
    puts-same (ap refused_line c.told_by.ensures ∙ told) c.put_refusal.ensures

-- What is printed, by what the reading comes to; and a table that was read is in range.
use mathlib.Core.Path.{◌≡◌, refl}
use mathlib.Core.Bool.{Bool, true, false, ◌&&◌}
use mathlib.Core.List.{List}
use Prim.Native.Nat.{ℕ, ◌≤◌, ◌<◌}
use lib.Dec.{ltb}
use lib.ListN.{length, take}
use borrow.Author.Tests.{lt-ltb, le-ltb}
use Rattle.std.specs.Prelude.{Ok, Err}
use Rattle.refusals.specs.Numbers.{bad_layout}
use Rattle.refusals.specs.declared.Refusal.{Refusal}
use Rattle.refusals.specs.Refusal.{refusal}
use Rattle.tables.specs.Limits.{period_max}
use Rattle.tables.specs.Range.{InRange}
use Rattle.tables.specs.Cost.{costed}
use Rattle.records.proofs.Answers.{filling-all}
use Rattle.graphs.proofs.Filled.{graph-read}
use Rattle.plans.specs.Calls.{on_table}
use Rattle.sheets.specs.Lines.{refused_line}
use Rattle.sheets.specs.Printed.{table_sheet, sheet_cost}
use Rattle.graphsheets.specs.Sheet.{text_max, sheet_id, graph_in, cut_off, relaxed, graph_sheet}

module _ (text : List ℕ) where
  -- it is cut off
  pub sheet-cut : text_max < length text → (graph_in text).commented ≡ false → graph_sheet text ≡ refused_line (refusal bad_layout text_max)
  unfolding graph_sheet
  sheet-cut l e = rw (lt-ltb text_max (length text) l, e)

  -- it isn't, where there is no byte more or a comment ended the reading
  pub whole-short : length text ≤ text_max → cut_off text ≡ false
  whole-short h = rw (le-ltb text_max (length text) h)

  pub whole-commented : (graph_in text).commented ≡ true → cut_off text ≡ false
  whole-commented e = rw e (by (ltb text_max (length text)))
    where
      by : (b : Bool) → (b && false) ≡ false
      by true = refl
      by false = refl

  module _ (whole : cut_off text ≡ false) where
    pub sheet-refused : {r : Refusal} → (graph_in text).outcome ≡ Err r → graph_sheet text ≡ refused_line r
    unfolding graph_sheet
    sheet-refused e = rw (whole, e)

    pub sheet-read : (graph_in text).outcome ≡ Ok tt → graph_sheet text ≡ on_table refused_line table_sheet (costed (relaxed (graph_in text).table) sheet_cost)
    unfolding graph_sheet
    sheet-read e = rw (whole, e)

  -- a table that was read
  module _ (read : (graph_in text).outcome ≡ Ok tt) where
    pub read-range : InRange (graph_in text).table
    read-range = let r = graph-read (take text_max text) sheet_id period_max read in filling-all (graph_in text).table r.runs r.tasks.filling

    pub read-period : (graph_in text).table.period ≡ period_max
    read-period = (graph-read (take text_max text) sheet_id period_max read).tasks.period-is

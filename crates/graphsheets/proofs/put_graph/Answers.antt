-- `graphsheets::put_graph` meets its contract: its tests are the sheet's own, in their order, and a table that was read is in range.
use mathlib.Core.Path.{◌≡◌, sym, ap, ◌∙◌}
use mathlib.Core.Bool.{false}
use Rattle.std.specs.Prelude.{Ok}
use Rattle.tables.specs.Cost.{costed}
use Rattle.graphs.specs.declared.Graph.{Graph}
use Rattle.plans.specs.Calls.{on_table}
use Rattle.sheets.specs.Lines.{refused_line}
use Rattle.sheets.specs.Printed.{table_sheet, sheet_cost}
use Rattle.sheets.proofs.Printing.{puts-same}
use Rattle.graphsheets.specs.Sheet.{graph_in, cut_off, relaxed}
use Rattle.graphsheets.proofs.Sheets.{sheet-cut, whole-short, whole-commented, sheet-refused, sheet-read, read-range, read-period}
use Rattle.graphsheets.proofs.put_graph.Goals as goal
use Rattle.graphsheets.proofs.put_graph.Goals.{After-read_text-graph, In-Ok, Joined-else-text-gt-TEXT_MAX, else-text-gt-TEXT_MAX-via-then-text-gt-TEXT_MAX+else-not-graph, else-text-gt-TEXT_MAX-via-else-text-gt-TEXT_MAX}

graph : (c : After-read_text-graph) → graph_in c.args.text.now ≡ c.read_text-graph.result
graph c = sym c.read_text-graph.ensures

pub returns-then-not-graph : goal.returns-then-not-graph
returns-then-not-graph c =
    let no-comment = ap (λ (x : Graph). x.commented) (graph (goal.at.returns-then-not-graph c).After-read_text-graph) ∙ c.if-not-graph.true in
    puts-same (ap refused_line c.at.ensures ∙ sym (sheet-cut c.args.text.now c.if-text-gt-TEXT_MAX.true no-comment)) c.put_refusal.ensures

-- past the first test nothing is cut off
whole : (c : Joined-else-text-gt-TEXT_MAX) → cut_off c.args.text.now ≡ false
whole c =
    let told = graph (goal.at-Joined-else-text-gt-TEXT_MAX c).After-read_text-graph in elim c.else-text-gt-TEXT_MAX.branch [
      | else-text-gt-TEXT_MAX-via-then-text-gt-TEXT_MAX+else-not-graph w ↦ whole-commented c.args.text.now (ap (λ (x : Graph). x.commented) told ∙ w.if-not-graph.false)
      | else-text-gt-TEXT_MAX-via-else-text-gt-TEXT_MAX w ↦ whole-short c.args.text.now w.if-text-gt-TEXT_MAX.false
    ]

pub returns-in-Err : goal.returns-in-Err
returns-in-Err c =
    let refused = ap (λ (x : Graph). x.outcome) (graph (goal.at.returns-in-Err c).After-read_text-graph) ∙ c.in-Err.is in
    puts-same (sym (sheet-refused c.args.text.now (whole (goal.at.returns-in-Err c).Joined-else-text-gt-TEXT_MAX) refused)) c.put_refusal-in-Err.ensures

-- past the second it was read
read : (c : In-Ok) → (graph_in c.args.text.now).outcome ≡ Ok tt
read c = ap (λ (x : Graph). x.outcome) (graph (goal.at-In-Ok c).After-read_text-graph) ∙ c.in-Ok.is

pub put_relaxed-requires-clause-in_range : goal.put_relaxed-requires-clause-in_range
put_relaxed-requires-clause-in_range c =
    rw c.read_text-graph.ensures (read-range c.args.text.now (read (goal.at.put_relaxed-requires-clause-in_range c).In-Ok))

pub put_relaxed-requires-clause-largest : goal.put_relaxed-requires-clause-largest
put_relaxed-requires-clause-largest c =
    rw c.read_text-graph.ensures (read-period c.args.text.now (read (goal.at.put_relaxed-requires-clause-largest c).In-Ok))

pub returns-in-Ok : goal.returns-in-Ok
returns-in-Ok c =
    let sheet = ap (λ (x : Graph). on_table refused_line table_sheet (costed (relaxed x.table) sheet_cost)) c.read_text-graph.ensures in
    puts-same (sheet ∙ sym (sheet-read c.args.text.now (whole (goal.at.returns-in-Ok c).Joined-else-text-gt-TEXT_MAX) (read (goal.at.returns-in-Ok c).In-Ok))) c.put_relaxed.ensures

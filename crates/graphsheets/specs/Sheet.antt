-- What graphsheet prints for a text: the sheet of its task, or the line of its refusal (docs/PROTOCOL.md, "The text of a graph").
use Rattle.std.specs.Prelude.{Bool, ◌&&◌, not, List, ℕ, ◌*◌, ltb, length, take}
use Rattle.plain.specs.Pick.{pick}
use Rattle.refusals.specs.Numbers.{bad_layout}
use Rattle.refusals.specs.Refusal.{refusal, on_outcome}
use Rattle.tables.specs.declared.TaskTable.{TaskTable}
use Rattle.tables.specs.Limits.{period_max}
use Rattle.tables.specs.Cost.{costed}
use Rattle.graphs.specs.declared.Graph.{Graph}
use Rattle.graphs.specs.Graph.{graph_of}
use Rattle.plans.specs.Diagram.{path}
use Rattle.plans.specs.Calls.{on_table}
use Rattle.sheets.specs.Lines.{refused_line}
use Rattle.sheets.specs.Printed.{table_sheet, sheet_cost}

-- so many bytes of a text are read
abbrev pub text_max : ℕ
text_max = 65_536

-- a graph has no id, and is given this one
abbrev pub sheet_id : ℕ
sheet_id = 1

-- the graph in these bytes; it has no period, and is read with the largest
abbrev pub graph_in : (text : List ℕ) → Graph
graph_in text = graph_of (take text_max text) sheet_id period_max

-- a longer text, where no comment ended the reading in what is read of it
abbrev pub cut_off : (text : List ℕ) → Bool
cut_off text = ltb text_max (length text) && not (graph_in text).commented

-- the table with twice its path as the period
abbrev pub relaxed : TaskTable → TaskTable
relaxed t = record {
  edition = t.edition;
  id = t.id;
  period = 2 * path t;
  count = t.count;
  execution = t.execution;
  parents = t.parents;
}

-- 22 where the text is cut off; else the reading's refusal, or 10 of a loop, in the line that plansheet has for one; else the sheet, with cost 0
unfoldable pub graph_sheet : (text : List ℕ) → List ℕ
graph_sheet text =
    pick (cut_off text) (refused_line (refusal bad_layout text_max))
    (on_outcome refused_line (on_table refused_line table_sheet (costed (relaxed (graph_in text).table) sheet_cost)) (graph_in text).outcome)

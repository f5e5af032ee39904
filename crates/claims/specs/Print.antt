-- All that is promised of what `plansheet`, `graphsheet`, `buildingsheet` and `plancheck` print, and of the line that `mend` prints on standard error.
use Rattle.std.specs.Prelude.{◌≡◌, true, false, List, [], ◌∷◌, ◌++◌, ℕ, ◌+◌, ◌≤◌, ◌<◌, length, take, drop, Ok, Err}
use Rattle.refusals.specs.declared.Refusal.{Refusal}
use Rattle.refusals.specs.Refusal.{refusal as told, refusal_of}
use Rattle.refusals.specs.Answer.{refused}
use Rattle.tables.specs.declared.TaskTable.{TaskTable}
use Rattle.graphs.specs.declared.Graph.{Graph}
use Rattle.graphs.specs.Graph.{graph_of}
use Rattle.ways.specs.Reaches.{Loops}
use Rattle.rings.specs.Round.{Smallest}
use Rattle.plans.specs.Calls.{task_of, plan_call}
use Rattle.texts.specs.Text.{bytes as letters}
use Rattle.texts.specs.Lines.{line}
use Rattle.sheets.specs.Lines.{refused_line}
use Rattle.sheets.specs.Sheet.{sheet_text, sheet_max}
use Rattle.sheets.specs.Printed.{head_of, table_sheet, sheet_of, printed}
use Rattle.menders.specs.declared.Mending.{Mending}
use Rattle.mendlines.specs.Line.{counts_line, mend_line}
use Rattle.graphsheets.specs.Sheet.{relaxed, graph_sheet}
use Rattle.buildings.specs.declared.Building.{Building}
use Rattle.buildings.specs.Building.{building_call}
use Rattle.buildingsheets.specs.Sheet.{counts_text, building_text, building_sheet}
use Rattle.records.specs.Step as step
use Rattle.files.specs.File.{record_at}
use Rattle.files.specs.Laid.{file_of}
use Rattle.planchecks.specs.Sheet.{judged_pair, check_sheet}
use Rattle.claims.specs.Rule.{IsAccepted, IsRefused}

-- a text as graphsheet reads it, with id 1 and the largest period
abbrev pub sheet_graph : (text : List ℕ) → Graph
sheet_graph text = graph_of text 1 16777215

-- a text of at most 65,536 bytes, whose table t is read
pub record Tabled (text : List ℕ) (t : TaskTable) : Type 0 where
  pub short : length text ≤ 65536
  pub read : (sheet_graph text).outcome ≡ Ok tt
  pub table : (sheet_graph text).table ≡ t

-- a task record and a plan record, each with its length before it
abbrev pub pair_of : (bytes plan : List ℕ) → List ℕ
pair_of bytes plan = file_of (bytes ∷ plan ∷ [])

-- with words enough for a plan lent; "the programs use 0" as the cost
pub record OfPrinting : Type 0 where
  -- "On a refusal it prints one line": that of the refusal which planning gives
  pub refusal : (bytes words : List ℕ) (r : Refusal) → 387 ≤ length words → (plan_call bytes words 0).answer ≡ refused r → sheet_of bytes ≡ refused_line r
  -- else the lines of the plan
  pub sheet : (bytes words : List ℕ) → IsAccepted (plan_call bytes words 0).answer → sheet_of bytes ≡ table_sheet (task_of bytes 0)
  -- every sheet fits the buffer
  pub fits : (bytes : List ℕ) → length (sheet_of bytes) ≤ sheet_max
  -- the contract: the text stands at the front of a buffer that is large enough, "bytes past them keep their content"; a smaller one is untouched
  pub written : (bytes out : List ℕ) → sheet_max ≤ length out → printed (sheet_of bytes) out ≡ record { count = length (sheet_of bytes); out = sheet_of bytes ++ drop (length (sheet_of bytes)) out }
  pub untouched : (bytes out : List ℕ) → length out < sheet_max → printed (sheet_of bytes) out ≡ record { count = 0; out = out }
  -- mend's line has the counts, or it is the refusal's; it fits the buffer, too
  pub mend-counts : (m : Mending) → IsAccepted m.answer → mend_line m ≡ counts_line m.counts
  pub mend-refusal : (m : Mending) → IsRefused m.answer → mend_line m ≡ refused_line (refusal_of m.answer)
  pub mend-fits : (m : Mending) → length (mend_line m) ≤ sheet_max
  -- graphsheet, of a text of at most 65,536 bytes: the line of the reading's refusal
  pub graph-refusal : (text : List ℕ) (r : Refusal) → length text ≤ 65536 → (sheet_graph text).outcome ≡ Err r → graph_sheet text ≡ refused_line r
  -- of a loop the line of 10, with the smallest node that is reached from itself
  pub graph-loop : (text : List ℕ) (t : TaskTable) (node : ℕ) → Tabled text t → Smallest t.parents node → graph_sheet text ≡ refused_line (told 10 node)
  -- else the sheet of its table with twice the path as the period, which is one: 11 does not occur
  pub graph-sheet : (text : List ℕ) (t : TaskTable) → Tabled text t → (Loops t.parents t.count → ⊥) → graph_sheet text ≡ table_sheet (relaxed t)
  pub graph-period : (text : List ℕ) (t : TaskTable) → Tabled text t → (Loops t.parents t.count → ⊥) → (1 ≤ (relaxed t).period) × ((relaxed t).period ≤ 8388480)
  -- of a longer text what the first 65,536 bytes give, where a comment ended the reading in them, else 22 at 65,536
  pub graph-front : (text : List ℕ) → 65536 < length text → (sheet_graph (take 65536 text)).commented ≡ true → graph_sheet text ≡ graph_sheet (take 65536 text)
  pub graph-cut : (text : List ℕ) → 65536 < length text → (sheet_graph (take 65536 text)).commented ≡ false → graph_sheet text ≡ refused_line (told 22 65536)
  -- it fits the buffer, too
  pub graph-fits : (text : List ℕ) → length (graph_sheet text) ≤ sheet_max
  -- buildingsheet: the counts, and a last line where the walk ended early, of a file's first 65,536 bytes
  pub building-sheet : (file : List ℕ) → building_sheet file ≡ building_text (building_call (take 65536 file) 0)
  pub building-whole : (b : Building) → IsAccepted b.answer → building_text b ≡ counts_text b.counts
  pub building-ended : (b : Building) → IsRefused b.answer →
      building_text b ≡ counts_text b.counts ++ line ((letters "ended ", b.answer.refusal) ∷ (letters "at ", b.answer.place) ∷ [])
  -- it fits the buffer, too
  pub building-fits : (file : List ℕ) → length (building_sheet file) ≤ sheet_max
  -- plancheck, of a task record and a plan record, "each preceded by its length as in e)": the line of the judge's refusal, or the sheet of the plan's words
  pub check-refusal : (bytes plan : List ℕ) → length (pair_of bytes plan) ≤ 8192 → IsRefused (judged_pair bytes plan).answer →
      check_sheet (pair_of bytes plan) ≡ refused_line (refusal_of (judged_pair bytes plan).answer)
  pub check-sheet : (bytes plan : List ℕ) → length (pair_of bytes plan) ≤ 8192 → IsAccepted (judged_pair bytes plan).answer →
      check_sheet (pair_of bytes plan) ≡ sheet_text (head_of (task_of bytes 0)) (judged_pair bytes plan).lent
  -- "a damaged length, or a record that runs past the input, is refused as in e)", of the first record and of the second
  pub check-first : (input : List ℕ) (r : Refusal) → length input ≤ 8192 → record_at input 0 ≡ Err r → check_sheet input ≡ refused_line r
  pub check-second : (input : List ℕ) (size begin : ℕ) (r : Refusal) → length input ≤ 8192 → record_at input 0 ≡ step.read size begin → record_at input (begin + size) ≡ Err r →
      check_sheet input ≡ refused_line r
  -- "bytes after the second record are 9 at the first of them"
  pub check-follow : (bytes plan rest : List ℕ) → 0 < length rest → length (pair_of bytes plan ++ rest) ≤ 8192 → check_sheet (pair_of bytes plan ++ rest) ≡ refused_line (told 9 (length (pair_of bytes plan)))
  -- "It reads at most its first 8,192 bytes"; it fits the buffer, too
  pub check-front : (input : List ℕ) → check_sheet input ≡ check_sheet (take 8192 input)
  pub check-fits : (input : List ℕ) → length (check_sheet input) ≤ sheet_max

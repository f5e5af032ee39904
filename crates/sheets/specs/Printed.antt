-- What is printed for a record: the sheet of its plan, or "on a refusal .. one line".
use Rattle.std.specs.Prelude.{◌≡◌, List, ℕ, ◌≤◌, ltb, length, replicate}
use Rattle.plain.specs.Pick.{pick}
use Rattle.tables.specs.declared.TaskTable.{TaskTable}
use Rattle.plans.specs.Diagram.{work, path}
use Rattle.plans.specs.Words.{words_max, written}
use Rattle.plans.specs.Calls.{on_task}
use Rattle.texts.specs.Wrote.{wrote}
use Rattle.sheets.specs.declared.lines.Head.{Head}
use Rattle.sheets.specs.Lines.{refused_line}
use Rattle.sheets.specs.Sheet.{sheet_text, sheet_max}

-- "The first line also gives id, T, C and P"
abbrev pub head_of : TaskTable → Head
head_of t = record { id = t.id; period = t.period; work = work t; path = path t }

-- the sheet of a table, planned into words that hold 0
abbrev pub table_sheet : TaskTable → List ℕ
table_sheet t = sheet_text (head_of t) (written t (replicate words_max 0))

-- "the programs use 0"
abbrev pub sheet_cost : ℕ
sheet_cost = 0

-- the sheet of a record: the reader's refusals as met, 10, 11, else the plan
abbrev pub sheet_of : List ℕ → List ℕ
sheet_of bytes = on_task refused_line table_sheet bytes sheet_cost

-- what the writer leaves: how many bytes it wrote, and the lent buffer
pub record Printed : Type 0 where
  pub count : ℕ
  pub out : List ℕ

-- the text at the front of a buffer that has room for every sheet; nothing in a smaller one
abbrev pub printed : List ℕ → List ℕ → Printed
printed text out = pick (ltb (length out) sheet_max) (record { count = 0; out = out }) (record { count = length text; out = wrote 0 text out })

-- what a call that prints promises: the text, and an answer within the buffer
abbrev pub Prints : (text out : List ℕ) (count : ℕ) (after : List ℕ) → Type 0
Prints text out count after = (record { count = count; out = after } ≡ printed text out) × (count ≤ length out)

-- Noting a task, which is document 01's admitting: 26 "before all others"; "Admitting checks 16, 17," the reader's refusals, "10,
-- 11, 12, 13."
use Rattle.std.specs.Prelude.{List, ℕ, Result, Ok, Err, length}
use Rattle.plain.specs.Pick.{pick}
use Rattle.refusals.specs.Numbers.{unsound_board}
use Rattle.refusals.specs.declared.Refusal.{Refusal}
use Rattle.refusals.specs.Refusal.{refusal, on_outcome}
use Rattle.tables.specs.declared.TaskTable.{TaskTable}
use Rattle.plans.specs.Diagram.{longest}
use Rattle.plans.specs.Shares.{over, shortest, density}
use Rattle.plans.specs.Words.{written}
use Rattle.plans.specs.Calls.{before_reading, on_task}
use Rattle.boards.specs.declared.Row.{Row}
use Rattle.boards.specs.declared.Change.{Change}
use Rattle.boards.specs.Row.{task_row}
use Rattle.boards.specs.Sound.{is_sound}
use Rattle.boards.specs.Change.{on_change, placed}

-- what noting or admitting comes to: the change of the board or the refusal, and the lent words after it
pub record Admission : Type 0 where
  pub change : Result Change Refusal
  pub words : List ℕ

-- a task's row: "id, node count, density sum and largest density", "its longest execution, its smallest deadline numerator and its Q"
abbrev pub row_of : TaskTable → Row
row_of t = task_row t.id t.count (density t) (longest t) (shortest t) (over t)

-- "A refusal returns its number and place ..; plan words and board rows stay untouched"
abbrev pub not_admitted : List ℕ → Refusal → Admission
not_admitted words r = record { change = Err r; words = words }

-- 12, 13; else "admitting writes the same plan words and returns the number (0..15) of the row it filled"
unfoldable pub entered : List Row → List ℕ → TaskTable → Admission
entered rows words t = on_change (not_admitted words) (λ c. record { change = Ok c; words = written t words }) (placed rows (row_of t))

-- 26, 16 by `before_reading`, 17, then the reader's, 10, 11 by `on_task`, then 12, 13 by `entered`
unfoldable pub noting : List ℕ → List ℕ → List Row → (cost : ℕ) → Admission
noting bytes words rows cost =
    on_outcome (not_admitted words)
    (pick (is_sound rows) (on_task (not_admitted words) (entered rows words) bytes cost) (not_admitted words (refusal unsound_board 0)))
    (before_reading (length words) cost)

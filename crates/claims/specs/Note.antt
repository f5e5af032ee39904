-- All that is promised of noting (`planner_note`), which is document 01's admitting.
use Rattle.std.specs.Prelude.{◌≡◌, List, [], ◌∷◌, ◌++◌, ℕ, ◌<◌, length, set}
use Rattle.refusals.specs.After.{After}
use Rattle.tables.specs.declared.TaskTable.{TaskTable}
use Rattle.plans.specs.Calls.{task_of}
use Rattle.boards.specs.declared.Row.{Row}
use Rattle.boards.specs.Sound.{Sound}
use Rattle.admissions.specs.Admission.{row_of}
use Rattle.planner.specs.Calls.{Lent}
use Rattle.planner.specs.Allows.{NoteAllows}
use Rattle.claims.specs.Rule.{Rule, rule, IsAccepted}
use Rattle.claims.specs.Promise.{Promise}
use Rattle.claims.specs.Record.{record_rules, NamesLoop}
use Rattle.claims.specs.Plan.{with_plan, GoodPlan}
use Rattle.claims.specs.Board.{HasId, IsFree, SomeRow, Lowest}

-- 12, "the id stands on the board already"; 13, "all 16 rows are taken"
abbrev pub board_rules : TaskTable → List Row → List Rule
board_rules t rows =
    rule 12 (SomeRow (HasId rows t.id))
    ∷ rule 13 (SomeRow (IsFree rows) → ⊥)
    ∷ []

-- 26 "before all others"; "Admitting checks 16, 17," the reader's refusals, "10, 11, 12, 13"; 17 is "the lent board isn't sound"
abbrev pub note_rules : (bytes words : List ℕ) (rows : List Row) (cost : ℕ) → List Rule
note_rules bytes words rows cost =
    rule 26 (255 < cost)
    ∷ rule 16 (length words < 387)
    ∷ rule 17 (Sound rows → ⊥)
    ∷ record_rules bytes cost
    ++ board_rules (task_of bytes cost) rows

-- "writes the same plan words", and the task's row where it says; "other rows keep their content"
abbrev pub with_task : TaskTable → (words : List ℕ) (rows : List Row) (row : ℕ) → Lent
with_task t words rows row = record { words = with_plan t words; rows = set rows row (row_of t) }

-- the promises; "A task goes to the lowest free row"
pub record OfNoting : Type 0 where
  pub call : (bytes words : List ℕ) (rows : List Row) (cost : ℕ) →
      Promise (NoteAllows bytes words rows cost) (record { words = words; rows = rows }) (note_rules bytes words rows cost) (Lowest (IsFree rows)) (with_task (task_of bytes cost) words rows)
  -- refusal 10 tells where the task goes round
  pub loop : (bytes words : List ℕ) (rows : List Row) (cost : ℕ) (a : After Lent) → NoteAllows bytes words rows cost a → a.answer.refusal ≡ 10 → NamesLoop (task_of bytes cost) a.answer
  -- demand 3
  pub plan : (bytes words : List ℕ) (rows : List Row) (cost : ℕ) (a : After Lent) → NoteAllows bytes words rows cost a → IsAccepted a.answer → GoodPlan (task_of bytes cost)

-- All that is promised of admitting (`planner_admit`): noting, guarded by the verdict for a number of cores.
use Rattle.std.specs.Prelude.{◌≡◌, ◌⊎◌, List, [], ◌∷◌, ◌++◌, ℕ, ◌<◌, length, set}
use Rattle.refusals.specs.After.{After}
use Rattle.tables.specs.declared.TaskTable.{TaskTable}
use Rattle.plans.specs.Calls.{task_of}
use Rattle.boards.specs.declared.Row.{Row}
use Rattle.boards.specs.Sound.{Sound}
use Rattle.admissions.specs.Admission.{row_of}
use Rattle.planner.specs.Calls.{Lent}
use Rattle.planner.specs.Allows.{AdmitAllows}
use Rattle.claims.specs.Rule.{Rule, rule, IsAccepted}
use Rattle.claims.specs.Promise.{Promise}
use Rattle.claims.specs.Record.{record_rules, NamesLoop}
use Rattle.claims.specs.Plan.{GoodPlan}
use Rattle.claims.specs.Board.{IsFree, Lowest}
use Rattle.claims.specs.Ask.{Fits, SaysYes}
use Rattle.claims.specs.Note.{board_rules, with_task}

-- 20, "the verdict would be no": with the task in the lowest free row, S + (m − 1) × M ≤ m × 1,000,000 does not hold
abbrev pub guard_rules : TaskTable → List Row → (cores : ℕ) → List Rule
guard_rules t rows cores = rule 20 ((k : ℕ) × Lowest (IsFree rows) k × (Fits (set rows k (row_of t)) cores → ⊥)) ∷ []

-- noting's, and "15 comes after 17; 20 .. comes after 13"
abbrev pub admit_rules : (bytes words : List ℕ) (rows : List Row) (cores cost : ℕ) → List Rule
admit_rules bytes words rows cores cost =
    rule 26 (255 < cost)
    ∷ rule 16 (length words < 387)
    ∷ rule 17 (Sound rows → ⊥)
    ∷ rule 15 ((cores ≡ 0) ⊎ (64 < cores))
    ∷ record_rules bytes cost
    ++ board_rules (task_of bytes cost) rows
    ++ guard_rules (task_of bytes cost) rows cores

-- the promises
pub record OfAdmitting : Type 0 where
  pub call : (bytes words : List ℕ) (rows : List Row) (cores cost : ℕ) →
      Promise (AdmitAllows bytes words rows cores cost) (record { words = words; rows = rows }) (admit_rules bytes words rows cores cost) (Lowest (IsFree rows)) (with_task (task_of bytes cost) words rows)
  -- refusal 10 tells where the task goes round
  pub loop : (bytes words : List ℕ) (rows : List Row) (cores cost : ℕ) (a : After Lent) → AdmitAllows bytes words rows cores cost a → a.answer.refusal ≡ 10 → NamesLoop (task_of bytes cost) a.answer
  -- demand 3
  pub plan : (bytes words : List ℕ) (rows : List Row) (cores cost : ℕ) (a : After Lent) → AdmitAllows bytes words rows cores cost a → IsAccepted a.answer → GoodPlan (task_of bytes cost)
  -- what is accepted leaves a board with a yes for these cores
  pub fits : (bytes words : List ℕ) (rows : List Row) (cores cost : ℕ) (a : After Lent) → AdmitAllows bytes words rows cores cost a → IsAccepted a.answer → SaysYes a.lent.rows cores

-- Admitting a task for a number of cores: "turn away a task that would make the verdict no".
use Rattle.std.specs.Prelude.{List, ℕ, Ok, length}
use Rattle.plain.specs.Pick.{pick}
use Rattle.refusals.specs.Numbers.{verdict_no}
use Rattle.refusals.specs.Refusal.{refusal, on_outcome}
use Rattle.tables.specs.declared.TaskTable.{TaskTable}
use Rattle.plans.specs.Calls.{before_reading, on_task}
use Rattle.boards.specs.declared.Row.{Row}
use Rattle.boards.specs.Sound.{is_sound}
use Rattle.boards.specs.Verdict.{verdict}
use Rattle.boards.specs.Change.{on_change, changed, before_asking}
use Rattle.admissions.specs.Admission.{Admission, not_admitted, entered}

-- 20, "the verdict would be no": the board that results where the task is noted is asked, and the task is kept or turned away
unfoldable pub guarded : List Row → List ℕ → (cores : ℕ) → (noted : Admission) → Admission
guarded rows words cores noted =
    on_change (λ r. noted)
    (λ c. pick (verdict (changed rows (Ok c)) cores) noted (not_admitted words (refusal verdict_no 0)))
    noted.change

-- what is done with a task that has a plan: 12, 13 by `entered`, then 20
abbrev pub guarded_entry : List Row → List ℕ → (cores : ℕ) → TaskTable → Admission
guarded_entry rows words cores t = guarded rows words cores (entered rows words t)

-- noting with 15 between 17 and the record, "15 comes after 17", and with 20 at its end, "20 .. comes after 13"
unfoldable pub admission : List ℕ → List ℕ → List Row → (cores cost : ℕ) → Admission
admission bytes words rows cores cost =
    on_outcome (not_admitted words)
    (on_outcome (not_admitted words) (on_task (not_admitted words) (guarded_entry rows words cores) bytes cost) (before_asking (is_sound rows) cores))
    (before_reading (length words) cost)

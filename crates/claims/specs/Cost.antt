-- All that is promised of the dispatch cost.
use Rattle.std.specs.Prelude.{◌≡◌, List, ℕ, ◌+◌, ◌*◌, ◌≤◌, ltb, length}
use Rattle.plain.specs.At.{at}
use Rattle.plain.specs.Pick.{pick, up_to}
use Rattle.plain.specs.Sums.{sum_to}
use Rattle.refusals.specs.declared.Refusal.{Refusal}
use Rattle.refusals.specs.Refusal.{refusal, on_outcome}
use Rattle.refusals.specs.After.{After}
use Rattle.tables.specs.declared.TaskTable.{TaskTable}
use Rattle.tables.specs.Cost.{costed}
use Rattle.records.specs.Reading.{reading_of}
use Rattle.plans.specs.Accepted.{Accepted}
use Rattle.plans.specs.Diagram.{work}
use Rattle.plans.specs.Shares.{over}
use Rattle.plans.specs.Calls.{on_table, unplanned, planned, plan_call}
use Rattle.boards.specs.declared.Row.{Row}
use Rattle.boards.specs.Sound.{is_sound}
use Rattle.admissions.specs.Admission.{Admission, not_admitted, entered, noting}

-- how many nodes of a table run
abbrev pub runners : TaskTable → ℕ
runners t = sum_to t.count (λ v. up_to 1 (at t.execution v))

-- a record without a cost: the reader's refusals "as met, then 10, 11", of the table as it was read
abbrev pub on_record : {A : Type 0} → (Refusal → A) → (TaskTable → A) → List ℕ → A
on_record refuse go bytes = on_outcome refuse (on_table refuse go (reading_of bytes).table) (reading_of bytes).outcome

-- planning as document 01 has it: "Planning checks 16, then" those
abbrev pub old_plan : (bytes words : List ℕ) → After (List ℕ)
old_plan bytes words = pick (ltb (length words) 387) (unplanned words (refusal 16 0)) (on_record (unplanned words) (planned words) bytes)

-- admitting as document 01 has it, which is noting now: "Admitting checks 16, 17," those, "12, 13"
abbrev pub old_admission : (bytes words : List ℕ) (rows : List Row) → Admission
old_admission bytes words rows =
    pick (ltb (length words) 387) (not_admitted words (refusal 16 0))
    (pick (is_sound rows) (on_record (not_admitted words) (entered rows words) bytes)
    (not_admitted words (refusal 17 0)))

-- the limits of a task that planning accepts
pub record Limited (t : TaskTable) : Type 0 where
  -- "may now be 65,790"
  pub execution-most : (v : ℕ) → at t.execution v ≤ 65790
  -- 64 times that
  pub work-most : work t ≤ 4210560
  -- "Q in f) and j) 8,421,120"
  pub over-most : over t ≤ 8421120

-- the promises; that 26 is given for a cost above 255 before all others, and at no other time, is with the rules of each call
pub record OfCost : Type 0 where
  -- "execution means written plus cost"
  pub runs : (t : TaskTable) (cost v : ℕ) → 1 ≤ at t.execution v → at (costed t cost).execution v ≡ at t.execution v + cost
  -- "Joins of edition 2 pay nothing"
  pub joins : (t : TaskTable) (cost v : ℕ) → at t.execution v ≡ 0 → at (costed t cost).execution v ≡ 0
  -- it is paid once by each node that runs, however many parents that has
  pub once : (t : TaskTable) (cost : ℕ) → work (costed t cost) ≡ work t + runners t * cost
  -- "With cost 0 all old answers stand": the table is the one that was read, and planning and noting come to what they came to
  pub free-table : (t : TaskTable) → costed t 0 ≡ t
  pub free-plan : (bytes words : List ℕ) → plan_call bytes words 0 ≡ old_plan bytes words
  pub free-noting : (bytes words : List ℕ) (rows : List Row) → noting bytes words rows 0 ≡ old_admission bytes words rows
  -- the limits that the request names, of every task that is accepted
  pub limits : (t : TaskTable) → Accepted t → Limited t

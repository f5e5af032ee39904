-- What the functions hand to each other.
use Rattle.std.specs.Prelude.{◌≡◌, List, ℕ, ◌^◌, ◌≤◌, ◌<◌, length, Result, Ok, Err}
use Rattle.plain.specs.At.{at}
use Rattle.refusals.specs.declared.Refusal.{Refusal}
use Rattle.refusals.specs.declared.Answer.{Answer}
use Rattle.refusals.specs.Answer.{accepted, refused}
use Rattle.tables.specs.declared.TaskTable.{TaskTable}
use Rattle.tables.specs.Limits.{count_max}
use Rattle.plans.specs.Diagram.{work, path}
use Rattle.plans.specs.Words.{word_count, words_max, written}
use Rattle.plans.specs.Inner.Planned.{Planned}
use Rattle.judges.specs.declared.Judging.{Judging}

-- words that hold our own plan of a task, beside its work
pub record OwnIn (t : TaskTable) (own : List ℕ) (C : ℕ) : Type 0 where
  pub table : Planned t
  pub old : List ℕ
  pub is : own ≡ written t old
  pub room : words_max ≤ length own
  pub work : C ≡ work t

-- words as a plan record has them
pub record PlanShaped (plan : List ℕ) : Type 0 where
  pub segments : at plan 1 ≤ count_max
  pub nodes : at plan 2 ≤ count_max
  pub size : length plan ≡ word_count (at plan 1) (at plan 2)
  pub small : (k : ℕ) → at plan k < 2 ^ 63

-- of a task that has a plan: its period, work and path
pub record Judged (t : TaskTable) (j : Judging) : Type 0 where
  pub table : Planned t
  pub period : j.period ≡ t.period
  pub work : j.work ≡ work t
  pub path : j.path ≡ path t

-- the answer that a judging is told by: the plan's id, or the refusal
abbrev pub told : Result Judging Refusal → Answer
told (Ok j) = accepted j.id
told (Err r) = refused r

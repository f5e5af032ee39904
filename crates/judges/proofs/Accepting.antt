-- What it takes to be accepted: no refusal is numbered 0, so where the judge's answer has none, the plan was read, is the task's, and keeps the rules.
use mathlib.Core.Path.{◌≡◌, refl}
use mathlib.Core.List.{List}
use Prim.Native.Nat.{ℕ}
use native.Mathlib.Omega.{arith}
use Rattle.plain.specs.At.{at}
use Rattle.refusals.specs.After.{After}
use Rattle.refusals.proofs.Readers.{readers-low}
use Rattle.tables.specs.declared.TaskTable.{TaskTable}
use Rattle.records.proofs.Expected.{refused-told}
use Rattle.plans.specs.Accepted.{Accepted}
use Rattle.plans.specs.Calls.{task_of}
use Rattle.plans.proofs.Cases.{Tasking}
use Rattle.planreaders.specs.Plan.{PlanRead, plan_of}
use Rattle.planreaders.specs.Reading.{unread, filled}
use Rattle.planreaders.proofs.Reached.{refused-rule, rule-number}
use Rattle.judges.specs.Judging.{broken_of, judged_for, judge_call}
use Rattle.judges.proofs.Cases.{PlanCase, plan-case, JudgeCase, judge-case}
use Rattle.judges.proofs.Cases.PlanCase.{few, damaged, other, broken, keeps}
use Rattle.judges.proofs.Cases.JudgeCase.{dear, tries}

-- a task that could be planned, the words of its plan, which keep the rules, and what is left of them
pub record Accepting (plan words : List ℕ) (t : TaskTable) (x : After (List ℕ)) : Type 0 where
  pub task : Accepted t
  pub id : ℕ
  pub found : List ℕ
  pub read : plan_of plan ≡ PlanRead.read id found
  pub own : id ≡ t.id
  pub nodes : at found 2 ≡ t.count
  pub kept : broken_of t found ≡ 0
  pub is : x ≡ filled words id found

module _ (bytes plan words : List ℕ) (cost : ℕ) where
  abbrev task-of : TaskTable
  task-of = task_of bytes cost

  by-plan : Accepted task-of → {x : After (List ℕ)} → PlanCase plan words task-of x → x.answer.refusal ≡ 0 → Accepting plan words task-of x
  by-plan ok (few l) z = absurd (omega arith)
  by-plan ok (damaged w r e) z = absurd ((rule-number (refused-rule plan r e).0).0 z)
  by-plan ok (other w e n) z = absurd (omega arith)
  by-plan ok (broken w e i n b) z = absurd (omega arith)
  by-plan ok (keeps w e i n k) z = record { task = ok; id = _; found = _; read = e; own = i; nodes = n; kept = k; is = refl }

  by-task : {x : After (List ℕ)} → Tasking (unread words) (judged_for plan words) bytes cost x → x.answer.refusal ≡ 0 → Accepting plan words task-of x
  by-task (Tasking.unread r e) z = absurd (omega (arith, readers-low r.number (refused-told bytes r e).own))
  by-task (Tasking.round e l) z = absurd (omega arith)
  by-task (Tasking.long e l h) z = absurd (omega arith)
  by-task (Tasking.goes e ok) z = by-plan ok (plan-case plan words task-of) z

  by-cost : {x : After (List ℕ)} → JudgeCase bytes plan words cost x → x.answer.refusal ≡ 0 → Accepting plan words task-of x
  by-cost (dear h) z = absurd (omega arith)
  by-cost (tries c t) z = by-task t z

  pub accepting : (judge_call bytes plan words cost).answer.refusal ≡ 0 → Accepting plan words task-of (judge_call bytes plan words cost)
  accepting z = by-cost (judge-case bytes plan words cost) z

-- All that is promised of judging a supplier's plan (`planner_judge`).
use Rattle.std.specs.Prelude.{◌≡◌, ◌↔◌, List, [], ◌∷◌, ◌++◌, ℕ, ◌≤◌, ◌<◌, length, take, Ok}
use Rattle.plain.specs.At.{at}
use Rattle.refusals.specs.Refusal.{refusal}
use Rattle.refusals.specs.Answer.{accepted, refused}
use Rattle.refusals.specs.After.{After}
use Rattle.tables.specs.declared.TaskTable.{TaskTable}
use Rattle.records.specs.Reading.{reading_of}
use Rattle.shares.specs.Words.{numerator_at, offset_at, deadline_at}
use Rattle.plans.specs.Accepted.{Accepted}
use Rattle.plans.specs.Kept.{KeptBy}
use Rattle.plans.specs.Calls.{task_of}
use Rattle.planreaders.specs.Met.{Refuses}
use Rattle.judges.specs.Rules.{KeepsAll, Breaks}
use Rattle.planner.specs.Allows.{PlanAllows, WritePlanAllows, JudgeAllows}
use Rattle.claims.specs.Rule.{Rule, rule, rule_by, IsAccepted}
use Rattle.claims.specs.Promise.{Promise}
use Rattle.claims.specs.Record.{record_rules, NamesLoop}
use Rattle.claims.specs.Write.{with_record}
use Rattle.claims.specs.PlanRecord.{Holds, id_in, found_in, size_of}

-- "24 at 0, id or node count isn't the task's"
abbrev pub Other : TaskTable → (plan : List ℕ) → Type 0
Other t plan = (id : ℕ) × (found : List ℕ) × Holds plan id found × (id ≡ t.id → at found 2 ≡ t.count → ⊥)

-- "25, a rule is broken, with the number of the first broken rule in the order above, from 1, as its place"
abbrev pub broken_by : TaskTable → (plan : List ℕ) → (number place : ℕ) → Type 0
broken_by t plan number place = (number ≡ 25) × Breaks t (found_in plan) place

-- "then 16 .., and 1, 2 .., 18, 24 and 9 as met; .. the judge then gives 24 at 0 .. and 25"
abbrev pub foreign_rules : TaskTable → (plan words : List ℕ) → List Rule
foreign_rules t plan words =
    rule 16 (length words < 387)
    ∷ rule_by (Refuses plan)
    ∷ rule 24 (Other t plan)
    ∷ rule_by (broken_by t plan)
    ∷ []

-- 26 before all others; "the judge gives the task record's first, 10 and 11 included"
abbrev pub judge_rules : (bytes plan words : List ℕ) (cost : ℕ) → List Rule
judge_rules bytes plan words cost =
    rule 26 (255 < cost)
    ∷ (record_rules bytes cost ++ foreign_rules (task_of bytes cost) plan words)

-- an accepted plan, for the task it is judged for
pub record GoodForeign (t : TaskTable) (id : ℕ) (found : List ℕ) : Type 0 where
  -- the task could be planned, and the plan is the task's own: its id, and as many nodes
  pub task : Accepted t
  pub same_id : id ≡ t.id
  pub same_count : at found 2 ≡ t.count
  -- the eight rules
  pub rules : KeepsAll t found
  -- the sentences of demand 3
  pub kept : KeptBy t (at found 0) (numerator_at found) (deadline_at found) (offset_at found)

-- where neither the cost, the task, the words nor the plan record is refused, and the plan is the task's
pub record Heard (bytes plan words : List ℕ) (cost id : ℕ) (found : List ℕ) : Type 0 where
  pub cheap : cost ≤ 255
  pub read : (reading_of bytes).outcome ≡ Ok tt
  pub task : Accepted (task_of bytes cost)
  pub enough : 387 ≤ length words
  pub holds : Holds plan id found
  pub same_id : id ≡ (task_of bytes cost).id
  pub same_count : at found 2 ≡ (task_of bytes cost).count

-- what holds of a plan of ours that is written as a plan record, for every buffer that it fits
pub record OwnPasses (bytes own : List ℕ) (cost : ℕ) : Type 0 where
  -- the writer takes it, with the task's id
  pub written : (buffer : List ℕ) (a : After (List ℕ)) → 3476 ≤ length buffer → WritePlanAllows own buffer (task_of bytes cost).id a → IsAccepted a.answer
  -- and the judge accepts what was written, with the same words
  pub accepted : (buffer words : List ℕ) (a b : After (List ℕ)) → WritePlanAllows own buffer (task_of bytes cost).id a → IsAccepted a.answer → 387 ≤ length words →
      JudgeAllows bytes (take a.answer.value a.lent) words cost b → b ≡ record { answer = accepted (task_of bytes cost).id; lent = with_record (take (size_of own) own) words }

-- the promises
pub record OfJudging : Type 0 where
  pub call : (bytes plan words : List ℕ) (cost : ℕ) →
      Promise (JudgeAllows bytes plan words cost) words (judge_rules bytes plan words cost) (λ v. v ≡ id_in plan) (λ _. with_record (found_in plan) words)
  -- refusal 10 tells where the task goes round
  pub loop : (bytes plan words : List ℕ) (cost : ℕ) (a : After (List ℕ)) → JudgeAllows bytes plan words cost a → a.answer.refusal ≡ 10 → NamesLoop (task_of bytes cost) a.answer
  -- there "The judge accepts exactly when" the eight rules are kept, and 25's place is the first that is not
  pub accepts : (bytes plan words : List ℕ) (cost id : ℕ) (found : List ℕ) (a : After (List ℕ)) → Heard bytes plan words cost id found → JudgeAllows bytes plan words cost a →
      IsAccepted a.answer ↔ KeepsAll (task_of bytes cost) found
  pub breaks : (bytes plan words : List ℕ) (cost id : ℕ) (found : List ℕ) (a : After (List ℕ)) (k : ℕ) → Heard bytes plan words cost id found → JudgeAllows bytes plan words cost a →
      (a.answer ≡ refused (refusal 25 k)) ↔ Breaks (task_of bytes cost) found k
  -- "every accepted foreign plan keeps the sentences of demand 3 about a plan, for its task"
  pub good : (bytes plan words : List ℕ) (cost : ℕ) (a : After (List ℕ)) → JudgeAllows bytes plan words cost a → IsAccepted a.answer → GoodForeign (task_of bytes cost) (id_in plan) (found_in plan)
  -- "Our own plans always pass": what planning writes, written as a plan record and judged with the same record and cost
  pub own : (bytes words : List ℕ) (cost : ℕ) (a : After (List ℕ)) → PlanAllows bytes words cost a → IsAccepted a.answer → OwnPasses bytes a.lent cost

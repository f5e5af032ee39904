-- All that is promised of plan records (`planner_read_plan`, `planner_write_plan`).
use Rattle.std.specs.Prelude.{◌≡◌, ◌⊎◌, ◌↔◌, List, [], ◌∷◌, ℕ, ◌+◌, ◌*◌, ◌^◌, ◌≤◌, ◌<◌, length, take}
use Rattle.plain.specs.At.{at}
use Rattle.refusals.specs.Refusal.{refusal}
use Rattle.refusals.specs.Answer.{accepted}
use Rattle.refusals.specs.After.{After}
use Rattle.numbers.specs.Shortest.{Bytes}
use Rattle.planreaders.specs.Plan.{PlanRead, on_plan, plan_of}
use Rattle.planreaders.specs.Met.{Refuses, Spelt}
use Rattle.planwriters.specs.Writing.{numbers_of, plan_record_of}
use Rattle.planner.specs.Allows.{ReadPlanAllows, WritePlanAllows}
use Rattle.claims.specs.Rule.{Rule, rule_at, rule, rule_by, IsAccepted}
use Rattle.claims.specs.Promise.{Promise}
use Rattle.claims.specs.Write.{with_record}

-- "then 16 (a short word buffer), and 1, 2 (now at a ninth byte), 18, 24 and 9 as met"
abbrev pub read_plan_rules : (plan words : List ℕ) → List Rule
read_plan_rules plan words =
    rule 16 (length words < 387)
    ∷ rule_by (Refuses plan)
    ∷ []

-- how many words a plan has: 3 + 3s + 3n
abbrev pub size_of : (words : List ℕ) → ℕ
size_of words = 3 + 3 * at words 1 + 3 * at words 2

-- outside 1..64
abbrev pub NoCount : ℕ → Type 0
NoCount v = (v < 1) ⊎ (64 < v)

-- "The writer gives 16, 24 (at the word's index), 28, an id or written word of 2^63 or more, and 19 last"
abbrev pub write_plan_rules : (words bytes : List ℕ) (id : ℕ) → List Rule
write_plan_rules words bytes id =
    rule 16 (length words < 387)
    ∷ rule_at 24 1 (NoCount (at words 1))
    ∷ rule_at 24 2 (NoCount (at words 2))
    ∷ rule 28 ((2 ^ 63 ≤ id) ⊎ ((k : ℕ) × (k < size_of words) × (2 ^ 63 ≤ at words k)))
    ∷ rule_at 19 (length bytes) (length bytes < length (plan_record_of id words))
    ∷ []

-- a plan record holds an id and a plan's words
abbrev pub Holds : (plan : List ℕ) (id : ℕ) (found : List ℕ) → Type 0
Holds plan id found = plan_of plan ≡ PlanRead.read id found

-- the id of a plan record; 0 where it is refused
abbrev pub id_in : (plan : List ℕ) → ℕ
id_in plan = on_plan (λ _. 0) (λ id found. id) (plan_of plan)

-- its words; none where it is refused
abbrev pub found_in : (plan : List ℕ) → List ℕ
found_in plan = on_plan (λ _. []) (λ id found. found) (plan_of plan)

-- the promises
pub record OfPlanRecords : Type 0 where
  -- "Reader and judge give the id and fill the plan's words"
  pub reading : (plan words : List ℕ) → Promise (ReadPlanAllows plan words) words (read_plan_rules plan words) (λ v. v ≡ id_in plan) (λ _. with_record (found_in plan) words)
  -- a plan record is refused by a number at a place exactly where a rule gives that
  pub refuses : (plan : List ℕ) (number place : ℕ) → (plan_of plan ≡ PlanRead.refused (refusal number place)) ↔ Refuses plan number place
  -- and holds a plan exactly where its numbers are all fine and nothing follows: they are those of its id and words, in the record's order
  pub accepts : (plan : List ℕ) (id : ℕ) (found : List ℕ) → Holds plan id found ↔ ((length found ≡ size_of found) × Spelt plan (numbers_of id found))
  pub writing : (words bytes : List ℕ) (id : ℕ) →
      Promise (WritePlanAllows words bytes id) bytes (write_plan_rules words bytes id) (λ v. v ≡ length (plan_record_of id words)) (λ _. with_record (plan_record_of id words) bytes)
  -- what is written reads back as the same words with the same id
  pub back : (words bytes : List ℕ) (id : ℕ) (a : After (List ℕ)) → WritePlanAllows words bytes id a → IsAccepted a.answer →
      Holds (take a.answer.value a.lent) id (take (size_of words) words)
  -- a plan record that is read is written again byte for byte, where there is room for it
  pub again : (plan words bytes : List ℕ) (id : ℕ) (found : List ℕ) (a : After (List ℕ)) → Bytes plan → Holds plan id found → 387 ≤ length words → length plan ≤ length bytes →
      WritePlanAllows (with_record found words) bytes id a → a ≡ record { answer = accepted (length plan); lent = with_record plan bytes }
  -- so no two plan records have one plan
  pub one-record : (s r : List ℕ) (id : ℕ) (found : List ℕ) → Bytes s → Bytes r → Holds s id found → Holds r id found → s ≡ r
  -- a buffer of so many bytes is never too short
  pub longest : (words bytes : List ℕ) (id : ℕ) (a : After (List ℕ)) → WritePlanAllows words bytes id a → IsAccepted a.answer → a.answer.value ≤ 3476

-- All that is promised of planning (`planner_plan`).
use Rattle.std.specs.Prelude.{◌≡◌, List, ◌∷◌, ◌++◌, ℕ, ◌+◌, ◌*◌, ◌≤◌, ◌<◌, length, drop}
use Rattle.plain.specs.At.{at}
use Rattle.refusals.specs.After.{After}
use Rattle.tables.specs.declared.TaskTable.{TaskTable}
use Rattle.plans.specs.Diagram.{segment_count}
use Rattle.plans.specs.Shares.{over, deadline, density}
use Rattle.plans.specs.Words.{front_words, node_words}
use Rattle.plans.specs.Accepted.{Accepted}
use Rattle.plans.specs.Kept.{Kept}
use Rattle.plans.specs.Calls.{task_of}
use Rattle.boards.specs.Fractions.{Fraction, exact_density}
use Rattle.planner.specs.Allows.{PlanAllows}
use Rattle.claims.specs.Rule.{Rule, rule, IsAccepted}
use Rattle.claims.specs.Promise.{Promise}
use Rattle.claims.specs.Record.{record_rules, NamesLoop}

-- 26, "cost above 255, before all others"; "Planning checks 16, then" the reader's refusals "as met, then 10, 11"; 16 is "the lent plan has fewer
-- than 387 words"
abbrev pub plan_rules : (bytes words : List ℕ) (cost : ℕ) → List Rule
plan_rules bytes words cost =
    rule 26 (255 < cost)
    ∷ rule 16 (length words < 387)
    ∷ record_rules bytes cost

-- "Planning returns that number of words": 3 + 3s + 3n
abbrev pub plan_value : TaskTable → ℕ → Type 0
plan_value t v = v ≡ 3 + 3 * segment_count t + 3 * t.count

-- the lent words with a table's plan in them: "Words past 3 + 3s + 3n keep their old content"
abbrev pub with_plan : TaskTable → List ℕ → List ℕ
with_plan t words = front_words t ++ node_words t ++ drop (3 + 3 * segment_count t + 3 * t.count) words

-- node v's density, unrounded: "execution × Q over numerator"
abbrev pub exact_of : TaskTable → ℕ → Fraction
exact_of t v = exact_density (at t.execution v) (over t) (deadline t v)

-- its deadline, unrounded: "every offset and deadline is a numerator over" Q
abbrev pub exact_deadline : TaskTable → ℕ → Fraction
exact_deadline t v = record { upper = deadline t v; lower = over t }

-- r millionths are not below the fraction
abbrev pub NotBelow : (r : ℕ) → Fraction → Type 0
NotBelow r x = x.upper * 1000000 ≤ r * x.lower

-- what holds of every table whose plan is accepted
pub record GoodPlan (t : TaskTable) : Type 0 where
  -- in range, with a cost in range; no node reached from itself; the path within the period
  pub accepted : Accepted t
  -- the sentences of demand 3
  pub kept : Kept t
  -- "a fraction is a pair of whole numbers, the lower one above 0"
  pub proper : (v : ℕ) → v < t.count → 0 < (exact_of t v).lower
  -- "the least whole number not below execution × Q × 1,000,000 / numerator"
  pub enough : (v : ℕ) → v < t.count → NotBelow (density t v) (exact_of t v)
  pub least : (v r : ℕ) → v < t.count → NotBelow r (exact_of t v) → density t v ≤ r

-- the promises
pub record OfPlanning : Type 0 where
  pub call : (bytes words : List ℕ) (cost : ℕ) →
      Promise (PlanAllows bytes words cost) words (plan_rules bytes words cost) (plan_value (task_of bytes cost)) (λ _. with_plan (task_of bytes cost) words)
  -- refusal 10 tells where the task goes round
  pub loop : (bytes words : List ℕ) (cost : ℕ) (a : After (List ℕ)) → PlanAllows bytes words cost a → a.answer.refusal ≡ 10 → NamesLoop (task_of bytes cost) a.answer
  -- demand 3
  pub plan : (bytes words : List ℕ) (cost : ℕ) (a : After (List ℕ)) → PlanAllows bytes words cost a → IsAccepted a.answer → GoodPlan (task_of bytes cost)

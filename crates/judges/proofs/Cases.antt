-- What judging comes to, case by case: the definition is a chain of tests, and each test says a rule.
use mathlib.Core.Path.{◌≡◌, refl}
use mathlib.Core.List.{List}
use Prim.Native.Nat.{ℕ, ◌≤◌, ◌<◌}
use lib.Dec.{eqb, ltb}
use lib.ListN.{length}
use borrow.Author.Tests.{ltb-true, ltb-false, eqb-true, eqb-false, eq-eqb}
use Rattle.plain.specs.At.{at}
use Rattle.plain.proofs.Picks.{pick-case, true-false}
use Rattle.plain.proofs.Tests.{both_true, true-both}
use Rattle.refusals.specs.Numbers.{few_words, bad_plan, broken_rule, high_cost}
use Rattle.refusals.specs.declared.Refusal.{Refusal}
use Rattle.refusals.specs.Refusal.{refusal}
use Rattle.refusals.specs.After.{After}
use Rattle.tables.specs.declared.TaskTable.{TaskTable}
use Rattle.tables.specs.Limits.{cost_max}
use Rattle.plans.specs.Words.{words_max}
use Rattle.plans.proofs.Cases.{Tasking, tasking}
use Rattle.planreaders.specs.Plan.{PlanRead, on_plan, plan_of}
use Rattle.planreaders.specs.Reading.{unread, filled}
use Rattle.judges.specs.Judging.{broken_of, is_of, judged, judged_for, judge_call}

module _ (plan words : List ℕ) (t : TaskTable) where
  -- 16; the plan record's; 24 at 0; 25; else the plan is accepted
  pub data PlanCase : After (List ℕ) → Type 0 where
    few : length words < words_max → PlanCase (unread words (refusal few_words 0))
    damaged : words_max ≤ length words → (r : Refusal) → plan_of plan ≡ PlanRead.refused r → PlanCase (unread words r)
    other : {id : ℕ} {found : List ℕ} → words_max ≤ length words → plan_of plan ≡ PlanRead.read id found → (id ≡ t.id → at found 2 ≡ t.count → ⊥) → PlanCase (unread words (refusal bad_plan 0))
    broken : {id : ℕ} {found : List ℕ} → words_max ≤ length words → plan_of plan ≡ PlanRead.read id found → id ≡ t.id → at found 2 ≡ t.count → (broken_of t found ≡ 0 → ⊥) →
        PlanCase (unread words (refusal broken_rule (broken_of t found)))
    keeps : {id : ℕ} {found : List ℕ} → words_max ≤ length words → plan_of plan ≡ PlanRead.read id found → id ≡ t.id → at found 2 ≡ t.count → broken_of t found ≡ 0 → PlanCase (filled words id found)

  -- the words of a plan that was read
  words-case : words_max ≤ length words → {id : ℕ} {found : List ℕ} → plan_of plan ≡ PlanRead.read id found → PlanCase (judged words t id found)
  unfolding judged
  words-case w {id} {found} e =
      pick-case PlanCase (is_of t id found)
      (λ h. let b = both_true (eqb id t.id) (eqb (at found 2) t.count) h in
      let i = eqb-true id t.id b.0 in let n = eqb-true (at found 2) t.count b.1 in
      pick-case PlanCase (eqb (broken_of t found) 0)
      (λ k. keeps w e i n (eqb-true (broken_of t found) 0 k))
      (λ k. broken w e i n (eqb-false (broken_of t found) 0 k)))
      (λ h. other w e (λ i n. true-false (true-both (eq-eqb id t.id i) (eq-eqb (at found 2) t.count n)) h))

  -- one of the five
  pub plan-case : PlanCase (judged_for plan words t)
  unfolding judged_for
  plan-case =
      pick-case PlanCase (ltb (length words) words_max)
      (λ h. few (ltb-true (length words) words_max h))
      (λ h. by (ltb-false (length words) words_max h) (plan_of plan) refl)
    where
      by : words_max ≤ length words → (p : PlanRead) → plan_of plan ≡ p → PlanCase (on_plan (unread words) (judged words t) p)
      by w (PlanRead.read id found) e = words-case w e
      by w (PlanRead.refused r) e = damaged w r e

module _ (bytes plan words : List ℕ) (cost : ℕ) where
  -- 26; else what the record's task comes to, with the plan
  pub data JudgeCase : After (List ℕ) → Type 0 where
    dear : cost_max < cost → JudgeCase (unread words (refusal high_cost 0))
    tries : cost ≤ cost_max → {x : After (List ℕ)} → Tasking (unread words) (judged_for plan words) bytes cost x → JudgeCase x

  pub judge-case : JudgeCase (judge_call bytes plan words cost)
  unfolding judge_call
  judge-case =
      pick-case JudgeCase (ltb cost_max cost)
      (λ h. dear (ltb-true cost_max cost h))
      (λ h. let c = ltb-false cost_max cost h in tries c (tasking (unread words) (judged_for plan words) bytes cost c))

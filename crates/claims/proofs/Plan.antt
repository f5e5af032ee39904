-- Planning answers by its rules; an accepted plan is that of an accepted table, and such a plan keeps what demand 3 says.
use mathlib.Core.Path.{◌≡◌, refl, sym, ap, ◌∙◌}
use mathlib.Core.Logic.{inl, inr}
use mathlib.Core.List.{List, []}
use Prim.Native.Nat.{ℕ, ◌≤◌, ◌<◌}
use native.Mathlib.Omega.{arith}
use lib.ListN.{length}
use borrow.Author.Tests.{eqb-false}
use Rattle.std.specs.Prelude.{Result, ⊤}
use Rattle.plain.specs.At.{at}
use Rattle.refusals.specs.Numbers.{loop, long_path, few_words, high_cost}
use Rattle.refusals.specs.declared.Refusal.{Refusal}
use Rattle.refusals.specs.Refusal.{refusal, on_outcome}
use Rattle.refusals.specs.After.{After}
use Rattle.tables.specs.declared.TaskTable.{TaskTable}
use Rattle.tables.specs.Limits.{cost_max}
use Rattle.plans.specs.Shares.{over, deadline, density}
use Rattle.plans.specs.Words.{words_max}
use Rattle.plans.specs.Accepted.{Accepted}
use Rattle.plans.specs.Inner.Planned.{Planned}
use Rattle.plans.specs.Calls.{on_task, task_of, unplanned, planned, plan_call}
use Rattle.plans.proofs.Table.{plans-accepted}
use Rattle.plans.proofs.Kept.{kept}
use Rattle.plans.proofs.Figures.{deadline-some}
use Rattle.plans.proofs.Cases.{Before, before, Tasking, tasking}
use Rattle.plans.proofs.Cases.Before.{dear as too-dear, few as too_few, reads}
use Rattle.plans.proofs.Cases.Tasking.{unread, round, long, goes}
use Rattle.claims.specs.Rule.{Decides, IsAccepted, IsRefused}
use Rattle.claims.specs.Record.{NamesLoop}
use Rattle.claims.specs.Plan.{plan_rules, plan_value, exact_of, GoodPlan, OfPlanning}
use Rattle.claims.proofs.Rule.{single, gives, not-given}
use Rattle.claims.proofs.Promise.{promised}
use Rattle.claims.proofs.Exact.{Least, rounds}
use Rattle.claims.proofs.Record.{record-singles, unread-some, decided, names-loop}

module _ (bytes words : List ℕ) (cost : ℕ) where
  -- 26; 16; else what the record's task comes to, with its plan
  pub data PlanCase : After (List ℕ) → Type 0 where
    dear : cost_max < cost → PlanCase (unplanned words (refusal high_cost 0))
    few : cost ≤ cost_max → length words < words_max → PlanCase (unplanned words (refusal few_words 0))
    tries : cost ≤ cost_max → words_max ≤ length words → {x : After (List ℕ)} → Tasking (unplanned words) (planned words) bytes cost x → PlanCase x

  -- one of the three
  pub planning : PlanCase (plan_call bytes words cost)
  unfolding plan_call
  planning = by (before (length words) cost)
    where
      by : {o : Result ⊤ Refusal} → Before (length words) cost o → PlanCase (on_outcome (unplanned words) (on_task (unplanned words) (planned words) bytes cost) o)
      by (too-dear c) = dear c
      by (too_few c w) = few c w
      by (reads c w) = tries c w (tasking (unplanned words) (planned words) bytes cost c)

  -- its rules decide its answer
  decides : Decides (plan_rules bytes words cost) (plan_value (task_of bytes cost)) (plan_call bytes words cost).answer
  decides = go planning
    where
      go : {x : After (List ℕ)} → PlanCase x → Decides (plan_rules bytes words cost) (plan_value (task_of bytes cost)) x.answer
      go (dear c) = inl (gives 26 c refl)
      go (few c w) = inr (not-given (λ l. omega arith), inl (gives 16 w refl))
      go (tries c w t) =
          inr (not-given (λ l. omega arith), inr (not-given (λ l. omega arith), decided (λ (x : After (List ℕ)). x.answer) (λ r. refl) bytes cost [] (plan_value (task_of bytes cost)) (λ e ok. (_, refl, refl)) t))

  -- a refusal writes nothing
  untouched : IsRefused (plan_call bytes words cost).answer → (plan_call bytes words cost).lent ≡ words
  untouched = go planning
    where
      go : {x : After (List ℕ)} → PlanCase x → IsRefused x.answer → x.lent ≡ words
      go (dear c) n = refl
      go (few c w) n = refl
      go (tries c w (unread r e)) n = refl
      go (tries c w (round e l)) n = refl
      go (tries c w (long e l h)) n = refl
      go (tries c w (goes e ok)) n = absurd (n refl)

  -- 10 names the loop
  loop-named : (plan_call bytes words cost).answer.refusal ≡ 10 → NamesLoop (task_of bytes cost) (plan_call bytes words cost).answer
  loop-named = go planning
    where
      go : {x : After (List ℕ)} → PlanCase x → x.answer.refusal ≡ 10 → NamesLoop (task_of bytes cost) x.answer
      go (dear c) z = absurd (eqb-false high_cost 10 refl z)
      go (few c w) z = absurd (eqb-false few_words 10 refl z)
      go (tries c w t) z = names-loop (λ (x : After (List ℕ)). x.answer) (λ r. refl) bytes cost (eqb-false 0 10 refl) t z

  -- an acceptance is an accepted table's plan
  pub plan-accepted : IsAccepted (plan_call bytes words cost).answer → Accepted (task_of bytes cost) × (plan_call bytes words cost ≡ planned words (task_of bytes cost))
  plan-accepted = go planning
    where
      go : {x : After (List ℕ)} → PlanCase x → IsAccepted x.answer → Accepted (task_of bytes cost) × (x ≡ planned words (task_of bytes cost))
      go (dear c) z = absurd (eqb-false high_cost 0 refl z)
      go (few c w) z = absurd (eqb-false few_words 0 refl z)
      go (tries c w (unread r e)) z = absurd (unread-some bytes r e z)
      go (tries c w (round e l)) z = absurd (eqb-false loop 0 refl z)
      go (tries c w (long e l h)) z = absurd (eqb-false long_path 0 refl z)
      go (tries c w (goes e ok)) z = (ok, refl)

-- a node's density is its unrounded one, rounded up
pub exact : {t : TaskTable} → Planned t → (v : ℕ) → v < t.count → Least (exact_of t v) (density t v)
unfolding density
exact {t} ok v h = rounds (at t.execution v) (over t) (deadline t v) (deadline-some ok v h)

-- every accepted table has a good plan
pub good-plan : {t : TaskTable} → Accepted t → GoodPlan t
good-plan {t} a =
    let ok = plans-accepted a in
    record {
      accepted = a;
      kept = kept ok;
      proper = λ v h. (exact ok v h).rounded.proper;
      enough = λ v h. (exact ok v h).rounded.enough;
      least = λ v r h l. (exact ok v h).least r l;
    }

-- the promises
pub of-planning : OfPlanning
of-planning = record {
  call = λ bytes words cost. promised (plan_call bytes words cost)
      (plan_rules bytes words cost) (plan_value (task_of bytes cost)) (single _ _, (single _ _, record-singles bytes cost)) (λ v w e f. e ∙ sym f) (decides bytes words cost)
      (untouched bytes words cost)
      (λ z. ap (λ (x : After (List ℕ)). x.lent) (plan-accepted bytes words cost z).1);
  loop = λ bytes words cost a e. rw e (loop-named bytes words cost);
  plan = λ bytes words cost a e z. good-plan (plan-accepted bytes words cost (rw e at z)).0;
}

-- The tests of the judge's functions are those of its definition, each in its place.
use Rattle.std.specs.Prelude.{Result, Err, ⊤}
use mathlib.Core.Path.{◌≡◌, refl, sym, ap, ◌∙◌}
use mathlib.Core.Bool.{Bool, true, false}
use mathlib.Core.List.{List}
use Prim.Native.Nat.{ℕ, ◌≤◌, ◌<◌}
use lib.Dec.{eqb}
use lib.ListN.{length}
use native.Mathlib.Omega.{arith}
use borrow.Author.Tests.{eqb-false, eq-eqb, ne_eqb, lt-ltb, le-ltb}
use Rattle.plain.specs.At.{at}
use Rattle.plain.specs.Pick.{pick}
use Rattle.refusals.specs.Numbers.{few_words, bad_plan, broken_rule, high_cost}
use Rattle.refusals.specs.declared.Refusal.{Refusal}
use Rattle.refusals.specs.declared.Answer.{Answer}
use Rattle.refusals.specs.Refusal.{refusal}
use Rattle.tables.specs.declared.TaskTable.{TaskTable}
use Rattle.tables.specs.Limits.{cost_max}
use Rattle.plans.specs.Words.{words_max}
use Rattle.plans.specs.Calls.{before_reading, on_task}
use Rattle.plans.proofs.Tests.{not-both}
use Rattle.plans.proofs.Cases.{Before, before}
use Rattle.plans.proofs.Cases.Before.{dear, few, reads}
use Rattle.planreaders.specs.Plan.{on_plan, plan_of}
use Rattle.planreaders.specs.Reading.{filled_with, unread, filled}
use Rattle.trials.specs.declared.Rule.{Rule}
use Rattle.trials.specs.declared.Rule.TheVariants.{OverFits, SameCut, SharedOut, Summed, Followed, Halved, Thinned, Rounded}
use Rattle.trials.specs.Told.{number_of}
use Rattle.judges.specs.Judging.{broken_of, is_of, judged, judged_for, judge_call}

-- the words of a plan: another id, another node count, a broken rule, none
module _ (words : List ℕ) (t : TaskTable) (id : ℕ) (plan : List ℕ) where
  not-of : is_of t id plan ≡ false → judged words t id plan ≡ unread words (refusal bad_plan 0)
  unfolding judged
  not-of e = rw e

  pub other-id : (id ≡ t.id → ⊥) → judged words t id plan ≡ unread words (refusal bad_plan 0)
  other-id n = not-of (rw (ne_eqb id t.id n))

  module _ (same : id ≡ t.id) where
    pub other-count : (at plan 2 ≡ t.count → ⊥) → judged words t id plan ≡ unread words (refusal bad_plan 0)
    other-count n = not-of (rw (eq-eqb id t.id same) (ne_eqb (at plan 2) t.count n))

    module _ (nodes : at plan 2 ≡ t.count) {k : ℕ} (is : k ≡ broken_of t plan) where
      of : is_of t id plan ≡ true
      of = rw (eq-eqb id t.id same) (eq-eqb (at plan 2) t.count nodes)

      pub is-broken : (k ≡ 0 → ⊥) → judged words t id plan ≡ unread words (refusal broken_rule k)
      unfolding judged
      is-broken n = rw (of, ← is, ne_eqb k 0 n)

      pub is-kept : k ≡ 0 → judged words t id plan ≡ filled words id plan
      unfolding judged
      is-kept z = rw (of, ← is, eq-eqb k 0 z)

  -- a refusal leaves the words as they were, an acceptance fills them
  module _ {a : Answer} (is : a ≡ (judged words t id plan).answer) where
    pub judged-out : (a.refusal ≡ 0 → ⊥) → record { answer = a; lent = words } ≡ judged words t id plan
    unfolding judged
    judged-out n = by (is_of t id plan) (eqb (broken_of t plan) 0) is
      where
        by : (b c : Bool) → a ≡ (pick b (pick c (filled words id plan) (unread words (refusal broken_rule (broken_of t plan)))) (unread words (refusal bad_plan 0))).answer →
            record { answer = a; lent = words } ≡ pick b (pick c (filled words id plan) (unread words (refusal broken_rule (broken_of t plan)))) (unread words (refusal bad_plan 0))
        by true true e = absurd (n (ap (λ (x : Answer). x.refusal) e))
        by true false e = rw e
        by false c e = rw e

    pub judged-in : a.refusal ≡ 0 → record { answer = a; lent = filled_with plan words } ≡ judged words t id plan
    unfolding judged
    judged-in z = by (is_of t id plan) (eqb (broken_of t plan) 0) is
      where
        by : (b c : Bool) → a ≡ (pick b (pick c (filled words id plan) (unread words (refusal broken_rule (broken_of t plan)))) (unread words (refusal bad_plan 0))).answer →
            record { answer = a; lent = filled_with plan words } ≡ pick b (pick c (filled words id plan) (unread words (refusal broken_rule (broken_of t plan)))) (unread words (refusal bad_plan 0))
        by true true e = rw e
        by true false e = absurd (eqb-false broken_rule 0 refl (sym (ap (λ (x : Answer). x.refusal) e) ∙ z))
        by false c e = absurd (eqb-false bad_plan 0 refl (sym (ap (λ (x : Answer). x.refusal) e) ∙ z))

-- no rule is numbered 0
pub number-some : (rule : Rule) → number_of rule ≡ 0 → ⊥
number-some OverFits e = omega arith
number-some SameCut e = omega arith
number-some SharedOut e = omega arith
number-some Summed e = omega arith
number-some Followed e = omega arith
number-some Halved e = omega arith
number-some Thinned e = omega arith
number-some Rounded e = omega arith

-- too few words, and enough
module _ (plan words : List ℕ) (t : TaskTable) where
  pub few_words_lem : length words < words_max → judged_for plan words t ≡ unread words (refusal few_words 0)
  unfolding judged_for
  few_words_lem h = rw (lt-ltb (length words) words_max h)

  pub words-enough : words_max ≤ length words → judged_for plan words t ≡ on_plan (unread words) (judged words t) (plan_of plan)
  unfolding judged_for
  words-enough h = rw (le-ltb (length words) words_max h)

-- no refusal before the reading is told as an acceptance
pub before-some : (words cost : ℕ) (r : Refusal) → before_reading words cost ≡ Err r → r.number ≡ 0 → ⊥
before-some words cost r = by (before words cost)
  where
    by : {o : Result ⊤ Refusal} → Before words cost o → o ≡ Err r → r.number ≡ 0 → ⊥
    by (dear h) e z = let q : refusal high_cost 0 ≡ r = cc in omega (arith, ap (λ (x : Refusal). x.number) q)
    by (few c h) e z = let q : refusal few_words 0 ≡ r = cc in omega (arith, ap (λ (x : Refusal). x.number) q)
    by (reads c h) e z = not-both e refl

-- a cost above its limit, and within
module _ (bytes plan words : List ℕ) (cost : ℕ) where
  cost-high : cost_max < cost → judge_call bytes plan words cost ≡ unread words (refusal high_cost 0)
  unfolding judge_call
  cost-high h = rw (lt-ltb cost_max cost h)

  pub cost-fits : cost ≤ cost_max → judge_call bytes plan words cost ≡ on_task (unread words) (judged_for plan words) bytes cost
  unfolding judge_call
  cost-fits h = rw (le-ltb cost_max cost h)

  -- 26 is tried as planning tries it, with words enough
  pub cost-out : {r : Refusal} → before_reading words_max cost ≡ Err r → judge_call bytes plan words cost ≡ unread words r
  cost-out {r} = by (before words_max cost)
    where
      by : {o : Result ⊤ Refusal} → Before words_max cost o → o ≡ Err r → judge_call bytes plan words cost ≡ unread words r
      by (dear h) e = let q : refusal high_cost 0 ≡ r = cc in cost-high h ∙ ap (unread words) q
      by (few c h) e = absurd (omega arith)
      by (reads c h) e = absurd (not-both e refl)

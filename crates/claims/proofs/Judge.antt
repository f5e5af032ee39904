-- Judging answers by its rules: the cost, the task's, the word buffer, the plan record's, whose plan it is, and the first of the eight that is broken. An accepted plan keeps all
-- eight, and so what demand 3 says; our own plan does too.
use mathlib.Core.Path.{◌≡◌, refl, sym, ap, ◌∙◌}
use mathlib.Core.Logic.{◌↔◌, inl, inr, ⊎_elim}
use mathlib.Core.List.{List}
use Prim.Native.Nat.{ℕ, ◌≤◌, ◌<◌}
use native.Mathlib.Omega.{arith}
use lib.ListN.{length}
use borrow.Author.Tests.{eqb-false}
use Rattle.std.specs.Prelude.{Ok, Err}
use Rattle.plain.specs.At.{at}
use Rattle.plain.proofs.Lists.{lt-or-ge}
use Rattle.refusals.specs.Numbers.{loop, long_path, few_words, bad_plan, broken_rule, high_cost}
use Rattle.refusals.specs.declared.Refusal.{Refusal}
use Rattle.refusals.specs.declared.Answer.{Answer}
use Rattle.refusals.specs.Refusal.{refusal}
use Rattle.refusals.specs.Answer.{refused}
use Rattle.refusals.specs.After.{After}
use Rattle.tables.specs.declared.TaskTable.{TaskTable}
use Rattle.tables.specs.Limits.{cost_max}
use Rattle.records.specs.Reading.{reading_of}
use Rattle.plans.specs.Accepted.{Accepted}
use Rattle.plans.specs.Words.{words_max, written}
use Rattle.plans.specs.Calls.{task_of, plan_call}
use Rattle.plans.proofs.Table.{plans-accepted}
use Rattle.plans.proofs.Tests.{on_fits, task-read}
use Rattle.plans.proofs.Read.{words-fit, length-written}
use Rattle.plans.proofs.Cases.Tasking.{unread, round, long, goes}
use Rattle.planreaders.specs.Plan.{PlanRead, on_plan, plan_of}
use Rattle.planreaders.specs.Reading as reading
use Rattle.planreaders.proofs.Reached.{refused-rule, rule-number}
use Rattle.planwriters.specs.Writing.{value_limit}
use Rattle.planwriters.proofs.Calls.{call}
use Rattle.planwriters.proofs.Trip.{fits-accepted}
use Rattle.judges.specs.Judging.{broken_of, judged, judged_for, judge_call}
use Rattle.judges.specs.Rules.{KeepsAll, Breaks}
use Rattle.judges.proofs.Cases.{PlanCase, plan-case, JudgeCase, judge-case}
use Rattle.judges.proofs.Cases.PlanCase.{few, damaged, other, broken, keeps}
use Rattle.judges.proofs.Cases.JudgeCase.{dear, tries}
use Rattle.judges.proofs.Rules.{none-broken, keeps-all, first-broken, broken-first}
use Rattle.judges.proofs.Tests.{cost-fits, words-enough, is-broken, is-kept}
use Rattle.judges.proofs.Accepting.{accepting}
use Rattle.judges.proofs.Kept.{kept_by}
use Rattle.judges.proofs.Passes.{own-written, own-judged}
use Rattle.claims.specs.Rule.{rule_by, Decides, IsAccepted, IsRefused}
use Rattle.claims.specs.Record.{NamesLoop}
use Rattle.claims.specs.Write.{with_record}
use Rattle.claims.specs.PlanRecord.{id_in, found_in}
use Rattle.claims.specs.Judge.{Other, broken_by, foreign_rules, judge_rules, GoodForeign, Heard, OwnPasses, OfJudging}
use Rattle.claims.proofs.Rule.{Single, Singles, single, single-by, gives, not-given}
use Rattle.claims.proofs.Promise.{promised}
use Rattle.claims.proofs.Record.{record-singles, unread-some, decided, names-loop}
use Rattle.claims.proofs.Plan as plan
use Rattle.claims.proofs.Plan.{planning}
use Rattle.claims.proofs.PlanRecord.{plan-single, plan-clear, wrote, front}

-- one plan is held by a record
held-once : (plan : List ℕ) {id id' : ℕ} {found found' : List ℕ} → plan_of plan ≡ PlanRead.read id found → plan_of plan ≡ PlanRead.read id' found' → (id ≡ id') × (found ≡ found')
held-once plan e f = let q = sym e ∙ f in (cc, cc)

module _ (t : TaskTable) (plan : List ℕ) where
  -- 25 gives one refusal
  broken-single : Single (rule_by (broken_by t plan))
  broken-single = single-by (broken_by t plan) (Err (refusal 25 (broken_of t (found_in plan)))) (λ k place (z, b). rw (z, broken-first t (found_in plan) b))

  module _ {id : ℕ} {found : List ℕ} (e : plan_of plan ≡ PlanRead.read id found) where
    id-in : id_in plan ≡ id
    id-in = rw e

    found_in_lem : found_in plan ≡ found
    found_in_lem = rw e

    not-other : id ≡ t.id → at found 2 ≡ t.count → Other t plan → ⊥
    not-other i n (id', found', f, m) = let s = held-once plan f e in m (s.0 ∙ i) (ap (λ (w : List ℕ). at w 2) s.1 ∙ n)

    not-broken : broken_of t found ≡ 0 → (r : Refusal) → rule_by (broken_by t plan) r → ⊥
    not-broken z r (k, place, (q, b), d) = let p = sym (broken-first t (found_in plan) b) ∙ ap (broken_of t) found_in_lem ∙ z in omega (arith, b.0)

module _ (t : TaskTable) (plan words : List ℕ) where
  -- the rules after the task's decide what is left to answer
  foreign-decides : Decides (foreign_rules t plan words) (λ v. v ≡ id_in plan) (judged_for plan words t).answer
  foreign-decides = by (plan-case plan words t)
    where
      by : {x : After (List ℕ)} → PlanCase plan words t x → Decides (foreign_rules t plan words) (λ v. v ≡ id_in plan) x.answer
      by (few h) = inl (gives 16 h refl)
      by (damaged h r e) = let w = refused-rule plan r e in inr (not-given (λ l. omega arith), inl (r, (r.number, r.place, w.0, w.1), refl))
      by (other h e n) = inr (not-given (λ l. omega arith), inr (plan-clear plan e, inl (gives 24 (_, _, e, n) refl)))
      by (broken {found = found} h e i n k) = inr (
        not-given (λ l. omega arith),
        inr (
          plan-clear plan e,
          inr (
            not-given (not-other t plan e i n),
            inl (refusal 25 (broken_of t found), (25, broken_of t found, (refl, rw (found_in_lem t plan e) (first-broken t found refl k)), refl), refl),
          ),
        ),
      )
      by (keeps h e i n z) = inr (not-given (λ l. omega arith), inr (plan-clear plan e, inr (not-given (not-other t plan e i n), inr (not-broken t plan e z, (_, sym (id-in t plan e), refl)))))

  -- none of them is 10
  foreign-not-loop : (judged_for plan words t).answer.refusal ≡ 10 → ⊥
  foreign-not-loop = by (plan-case plan words t)
    where
      by : {x : After (List ℕ)} → PlanCase plan words t x → x.answer.refusal ≡ 10 → ⊥
      by (few h) = eqb-false few_words 10 refl
      by (damaged h r e) = (rule-number (refused-rule plan r e).0).1
      by (other h e n) = eqb-false bad_plan 10 refl
      by (broken h e i n k) = eqb-false broken_rule 10 refl
      by (keeps h e i n z) = eqb-false 0 10 refl

module _ (bytes plan words : List ℕ) (cost : ℕ) where
  -- its rules decide its answer
  decides : Decides (judge_rules bytes plan words cost) (λ v. v ≡ id_in plan) (judge_call bytes plan words cost).answer
  decides = by (judge-case bytes plan words cost)
    where
      by : {x : After (List ℕ)} → JudgeCase bytes plan words cost x → Decides (judge_rules bytes plan words cost) (λ v. v ≡ id_in plan) x.answer
      by (dear c) = inl (gives 26 c refl)
      by (tries c x) = inr (
        not-given (λ l. omega arith),
        decided (λ (x : After (List ℕ)). x.answer) (λ r. refl) bytes cost (foreign_rules (task_of bytes cost) plan words) (λ v. v ≡ id_in plan) (λ e ok. foreign-decides (task_of bytes cost) plan words) x,
      )

  singles : Singles (judge_rules bytes plan words cost)
  singles = let s = record-singles bytes cost in
      (single _ _, (s.0, (s.1.0, (s.1.1.0, (single _ _, (plan-single plan, (single _ _, (broken-single (task_of bytes cost) plan, tt))))))))

  untouched : IsRefused (judge_call bytes plan words cost).answer → (judge_call bytes plan words cost).lent ≡ words
  untouched = by (judge-case bytes plan words cost)
    where
      plan-untouched : {x : After (List ℕ)} → PlanCase plan words (task_of bytes cost) x → IsRefused x.answer → x.lent ≡ words
      plan-untouched (few h) n = refl
      plan-untouched (damaged h r e) n = refl
      plan-untouched (other h e m) n = refl
      plan-untouched (broken h e i m k) n = refl
      plan-untouched (keeps h e i m k) n = absurd (n refl)

      by : {x : After (List ℕ)} → JudgeCase bytes plan words cost x → IsRefused x.answer → x.lent ≡ words
      by (dear c) n = refl
      by (tries c (unread r e)) n = refl
      by (tries c (round e l)) n = refl
      by (tries c (long e l h)) n = refl
      by (tries c (goes e ok)) n = plan-untouched (plan-case plan words (task_of bytes cost)) n

  -- the plan's words are filled in
  filled_in : IsAccepted (judge_call bytes plan words cost).answer → (judge_call bytes plan words cost).lent ≡ with_record (found_in plan) words
  filled_in z = let p = accepting bytes plan words cost z in ap (λ (a : After (List ℕ)). a.lent) p.is ∙ ap (λ (w : List ℕ). with_record w words) (sym (found_in_lem (task_of bytes cost) plan p.read))

  -- 10 names the loop
  loop-named : (judge_call bytes plan words cost).answer.refusal ≡ 10 → NamesLoop (task_of bytes cost) (judge_call bytes plan words cost).answer
  loop-named = by (judge-case bytes plan words cost)
    where
      by : {x : After (List ℕ)} → JudgeCase bytes plan words cost x → x.answer.refusal ≡ 10 → NamesLoop (task_of bytes cost) x.answer
      by (dear c) z = absurd (eqb-false high_cost 10 refl z)
      by (tries c x) z = names-loop (λ (x : After (List ℕ)). x.answer) (λ r. refl) bytes cost (foreign-not-loop (task_of bytes cost) plan words) x z

  -- an accepted plan is good
  good : IsAccepted (judge_call bytes plan words cost).answer → GoodForeign (task_of bytes cost) (id_in plan) (found_in plan)
  good z =
      let p = accepting bytes plan words cost z in
      let all = none-broken (task_of bytes cost) p.found p.kept in
      rw (id-in (task_of bytes cost) plan p.read, found_in_lem (task_of bytes cost) plan p.read)
      (record { task = p.task; same_id = p.own; same_count = p.nodes; rules = all; kept = kept_by (plans-accepted p.task) all })

-- where all else is in order, the answer is by the eight rules
module _ {bytes plan words : List ℕ} {cost id : ℕ} {found : List ℕ} (h : Heard bytes plan words cost id found) where
  abbrev task : TaskTable
  task = task_of bytes cost

  heard : judge_call bytes plan words cost ≡ judged words task id found
  heard =
      cost-fits bytes plan words cost h.cheap
      ∙ task-read (reading.unread words) (judged_for plan words) bytes cost h.read
      ∙ on_fits (reading.unread words) (judged_for plan words) task h.task.free h.task.fits
      ∙ words-enough plan words task h.enough
      ∙ ap (on_plan (reading.unread words) (judged words task)) h.holds

  accepts : IsAccepted (judge_call bytes plan words cost).answer ↔ KeepsAll task found
  accepts = (
    λ z. let a = accepting bytes plan words cost z in none-broken task found (rw (held-once plan a.read h.holds).1 at a.kept),
    λ all. ap (λ (x : After (List ℕ)). x.answer.refusal) (heard ∙ is-kept words task id found h.same_id h.same_count refl (keeps-all task found all)),
  )

  breaks : (k : ℕ) → ((judge_call bytes plan words cost).answer ≡ refused (refusal 25 k)) ↔ Breaks task found k
  breaks k = (⊎_elim here there (lt-or-ge 0 (broken_of task found)), back)
    where
      told : {n : ℕ} → n ≡ broken_of task found → (n ≡ 0 → ⊥) → (judge_call bytes plan words cost).answer ≡ refused (refusal 25 n)
      told is n = ap (λ (x : After (List ℕ)). x.answer) (heard ∙ is-broken words task id found h.same_id h.same_count is n)

      here : 0 < broken_of task found → (judge_call bytes plan words cost).answer ≡ refused (refusal 25 k) → Breaks task found k
      here l e = first-broken task found (ap (λ (x : Answer). x.place) (sym (told refl (λ z. omega arith)) ∙ e)) (λ z. omega (arith, ap (λ (x : Answer). x.place) (sym (told refl (λ z. omega arith)) ∙ e)))

      there : broken_of task found ≤ 0 → (judge_call bytes plan words cost).answer ≡ refused (refusal 25 k) → Breaks task found k
      there l e = absurd (eqb-false 25 0 refl (sym (ap (λ (x : Answer). x.refusal) e) ∙ accepts.1 (none-broken task found (omega arith))))

      back : Breaks task found k → (judge_call bytes plan words cost).answer ≡ refused (refusal 25 k)
      back b = told (sym (broken-first task found b)) (λ z. omega (arith, b.0))

-- our own plan passes: it is written, reads back and keeps the rules
module _ (bytes words : List ℕ) (cost : ℕ) where
  own-passes : cost ≤ cost_max → words_max ≤ length words → (reading_of bytes).outcome ≡ Ok tt → Accepted (task_of bytes cost) → OwnPasses bytes (written (task_of bytes cost) words) cost
  own-passes c w e a =
      let t = task_of bytes cost in
      let ok = plans-accepted a in
      let small : t.id < value_limit = omega (arith, ok.range.id-high) in
      let h : words_max ≤ length (written t words) = rw (length-written t words (omega (arith, words-fit ok))) w in
      record {
        written = λ buffer b room q. rw (q ∙ fits-accepted (own-written ok words t.id small h room) (call (written t words) buffer t.id)) refl;
        accepted = λ buffer lent b d q z room j.
            let p = wrote (written t words) buffer t.id (rw q at z) in
            j ∙ ap (λ (p : List ℕ). judge_call bytes p lent cost) (front (written t words) buffer t.id (q ∙ p.1)) ∙ own-judged bytes cost e c ok words lent small h room;
      }

  own : IsAccepted (plan_call bytes words cost).answer → OwnPasses bytes (plan_call bytes words cost).lent cost
  own = by (planning bytes words cost)
    where
      by : {x : After (List ℕ)} → plan.PlanCase bytes words cost x → IsAccepted x.answer → OwnPasses bytes x.lent cost
      by (plan.PlanCase.dear c) z = absurd (eqb-false high_cost 0 refl z)
      by (plan.PlanCase.few c w) z = absurd (eqb-false few_words 0 refl z)
      by (plan.PlanCase.tries c w (unread r e)) z = absurd (unread-some bytes r e z)
      by (plan.PlanCase.tries c w (round e l)) z = absurd (eqb-false loop 0 refl z)
      by (plan.PlanCase.tries c w (long e l h)) z = absurd (eqb-false long_path 0 refl z)
      by (plan.PlanCase.tries c w (goes e ok)) z = own-passes c w e ok

-- the promises
pub of-judging : OfJudging
of-judging = record {
  call = λ bytes plan words cost. promised (judge_call bytes plan words cost) (judge_rules bytes plan words cost) (λ v. v ≡ id_in plan) (singles bytes plan words cost) (λ v w e f. e ∙ sym f)
      (decides bytes plan words cost) (untouched bytes plan words cost) (filled_in bytes plan words cost);
  loop = λ bytes plan words cost a e. rw e (loop-named bytes plan words cost);
  accepts = λ bytes plan words cost id found a h e. rw e (accepts h);
  breaks = λ bytes plan words cost id found a k h e. rw e (breaks h k);
  good = λ bytes plan words cost a e z. good bytes plan words cost (rw e at z);
  own = λ bytes words cost a e z. rw e (own bytes words cost (rw e at z));
}

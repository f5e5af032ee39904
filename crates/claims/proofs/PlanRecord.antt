-- Reading and writing plan records answer by their rules: each test is the rule's own, and a plan record is refused just by the rules of its numbers. What is written and what is
-- read are each other's.
use mathlib.Core.Path.{◌≡◌, refl, sym, ap, ◌∙◌}
use mathlib.Core.Logic.{◌↔◌, inl, inr, ⊎_elim}
use mathlib.Core.List.{List}
use Prim.Native.Nat.{ℕ, ◌≤◌, ◌<◌}
use native.Mathlib.Omega.{arith}
use lib.ListN.{length, take, drop}
use lib.Seq.{take-append_seam, take-length}
use borrow.Author.Tests.{eqb-false}
use Rattle.std.specs.Prelude.{Result, Ok, Err, ⊤}
use Rattle.plain.proofs.Lists.{lt-or-ge}
use Rattle.refusals.specs.Numbers.{few_words, wrong_length, bad_plan, big_word}
use Rattle.refusals.specs.declared.Refusal.{Refusal}
use Rattle.refusals.specs.Refusal.{refusal}
use Rattle.refusals.specs.After.{After}
use Rattle.plans.specs.Words.{words_max}
use Rattle.planreaders.specs.Plan.{PlanRead, on_plan, plan_of}
use Rattle.planreaders.specs.Reading.{unread, filled, read_plan_call}
use Rattle.planreaders.specs.Met.{Refuses, Spelt, words_in}
use Rattle.planreaders.proofs.Plans.{plan-shape, call-few, call-on}
use Rattle.planreaders.proofs.Reached.{rule-refused, refused-rule, rule-number, spelt-read}
use Rattle.planreaders.proofs.Trip.{numbers-words, read-numbers, read_again}
use Rattle.planwriters.specs.Writing.{numbers_of, plan_record_of, written, unwritten, write_plan_call}
use Rattle.planwriters.specs.Inner.Fits.{Fits}
use Rattle.planwriters.proofs.Numbers.{plan-length}
use Rattle.planwriters.proofs.Calls.{Ruled, call}
use Rattle.planwriters.proofs.Calls.Ruled.{few, bad-segments, bad-nodes, big, short, fits}
use Rattle.planwriters.proofs.Trip.{not-big, write-back, write_again}
use Rattle.claims.specs.Rule.{rule_at, rule_by, Decides, IsAccepted, IsRefused}
use Rattle.claims.specs.Write.{with_record}
use Rattle.claims.specs.PlanRecord.{read_plan_rules, NoCount, write_plan_rules, Holds, id_in, found_in, size_of, OfPlanRecords}
use Rattle.claims.proofs.Rule.{Single, single, single-at, single-by, gives, not-given}
use Rattle.claims.proofs.Promise.{promised}

module _ (plan : List ℕ) where
  -- what a plan record comes to, as an outcome
  outcome_of : PlanRead → Result ⊤ Refusal
  outcome_of p = on_plan Err (λ id found. Ok tt) p

  -- its rules give one refusal, and none where it holds a plan
  pub plan-single : Single (rule_by (Refuses plan))
  unfolding outcome_of
  plan-single = single-by (Refuses plan) (outcome_of (plan_of plan)) (λ k place f. ap outcome_of (rule-refused plan f))

  pub plan-clear : {id : ℕ} {found : List ℕ} → plan_of plan ≡ PlanRead.read id found → (r : Refusal) → rule_by (Refuses plan) r → ⊥
  plan-clear e r (k, p, f, d) = let q = sym (rule-refused plan f) ∙ e in clash cc
    where
      clash : ◌≡◌ {A = ℕ} 0 1 → ⊥
      clash z = omega arith

module _ (plan words : List ℕ) where
  -- 16; a rule of the record; else its plan
  data ReadCase : After (List ℕ) → Type 0 where
    too_few : length words < words_max → ReadCase (unread words (refusal few_words 0))
    damaged : words_max ≤ length words → (r : Refusal) → plan_of plan ≡ PlanRead.refused r → ReadCase (unread words r)
    holds : words_max ≤ length words → {id : ℕ} {found : List ℕ} → plan_of plan ≡ PlanRead.read id found → ReadCase (filled words id found)

  read-case : ReadCase (read_plan_call plan words)
  read-case = ⊎_elim
      (λ (h : length words < words_max). rw (call-few plan words h) (too_few h))
      (λ (h : words_max ≤ length words). rw (call-on plan words h) (by h (plan_of plan) refl))
      (lt-or-ge (length words) words_max)
    where
      by : words_max ≤ length words → (p : PlanRead) → plan_of plan ≡ p → ReadCase (on_plan (unread words) (filled words) p)
      by h (PlanRead.read id found) e = holds h e
      by h (PlanRead.refused r) e = damaged h r e

  read-decides : Decides (read_plan_rules plan words) (λ v. v ≡ id_in plan) (read_plan_call plan words).answer
  read-decides = by read-case
    where
      by : {x : After (List ℕ)} → ReadCase x → Decides (read_plan_rules plan words) (λ v. v ≡ id_in plan) x.answer
      by (too_few h) = inl (gives 16 h refl)
      by (damaged h r e) = let w = refused-rule plan r e in inr (not-given (λ l. omega arith), inl (r, (r.number, r.place, w.0, w.1), refl))
      by (holds h {id = id} e) = inr (not-given (λ l. omega arith), inr (plan-clear plan e, (id, rw e refl, refl)))

  unread-kept : IsRefused (read_plan_call plan words).answer → (read_plan_call plan words).lent ≡ words
  unread-kept = by read-case
    where
      by : {x : After (List ℕ)} → ReadCase x → IsRefused x.answer → x.lent ≡ words
      by (too_few h) n = refl
      by (damaged h r e) n = refl
      by (holds h e) n = absurd (n refl)

  read-filled : IsAccepted (read_plan_call plan words).answer → (read_plan_call plan words).lent ≡ with_record (found_in plan) words
  read-filled = by read-case
    where
      by : {x : After (List ℕ)} → ReadCase x → IsAccepted x.answer → x.lent ≡ with_record (found_in plan) words
      by (too_few h) z = absurd (eqb-false few_words 0 refl z)
      by (damaged h r e) z = absurd ((rule-number (refused-rule plan r e).0).0 z)
      by (holds h e) z = rw e

-- a record holds a plan just where its numbers are the plan's
held : (plan : List ℕ) (id : ℕ) (found : List ℕ) → Holds plan id found ↔ ((length found ≡ size_of found) × Spelt plan (numbers_of id found))
held plan id found = (λ e. ((plan-shape plan e).size, read-numbers plan e), λ (l, s). spelt-read plan s ∙ ap (PlanRead.read id) (back l))
  where
    back : length found ≡ size_of found → words_in (numbers_of id found) ≡ found
    back l = numbers-words id found (omega arith) ∙ ap (λ (k : ℕ). take k found) (sym l) ∙ take-length found

module _ (words bytes : List ℕ) (id : ℕ) where
  write-decides : Decides (write_plan_rules words bytes id) (λ v. v ≡ length (plan_record_of id words)) (write_plan_call words bytes id).answer
  write-decides = by (call words bytes id)
    where
      counted : {v : ℕ} → 1 ≤ v → v ≤ 64 → NoCount v → ⊥
      counted l h o = ⊎_elim (λ p. omega arith) (λ p. omega arith) o

      clear : {number place : ℕ} {given : Type 0} → (given → ⊥) → (r : Refusal) → rule_at number place given r → ⊥
      clear n r (g, e) = n g

      by : {x : After (List ℕ)} → Ruled (unwritten bytes) (written (plan_record_of id words) bytes) words (length bytes) id x → Decides (write_plan_rules words bytes id) (λ v. v ≡ length (plan_record_of id words)) x.answer
      by (few h) = inl (gives 16 h refl)
      by (bad-segments w o) = inr (not-given (λ l. omega arith), inl (refusal 24 1, (o, refl), refl))
      by (bad-nodes w s o) = inr (not-given (λ l. omega arith), inr (clear (counted s.0 s.1), inl (refusal 24 2, (o, refl), refl)))
      by (big c o) = inr (not-given (λ l. omega (arith, c.enough)), inr (clear (counted c.segments-low c.segments-high), inr (clear (counted c.nodes-low c.nodes-high), inl (gives 28 o refl))))
      by (short c s h) = inr (
        not-given (λ l. omega (arith, c.enough)),
        inr (
          clear (counted c.segments-low c.segments-high),
          inr (
            clear (counted c.nodes-low c.nodes-high),
            inr (not-given (not-big c s), inl (refusal 19 (length bytes), (h, refl), refl)),
          ),
        ),
      )
      by (fits f) = let c = f.counted in inr (
        not-given (λ l. omega (arith, c.enough)),
        inr (
          clear (counted c.segments-low c.segments-high),
          inr (
            clear (counted c.nodes-low c.nodes-high),
            inr (not-given (not-big c f.small), inr (clear (λ h. omega (arith, f.enough)), (_, refl, refl))),
          ),
        ),
      )

  unwritten-kept : IsRefused (write_plan_call words bytes id).answer → (write_plan_call words bytes id).lent ≡ bytes
  unwritten-kept = by (call words bytes id)
    where
      by : {x : After (List ℕ)} → Ruled (unwritten bytes) (written (plan_record_of id words) bytes) words (length bytes) id x → IsRefused x.answer → x.lent ≡ bytes
      by (few h) n = refl
      by (bad-segments w o) n = refl
      by (bad-nodes w s o) n = refl
      by (big c o) n = refl
      by (short c s h) n = refl
      by (fits f) n = absurd (n refl)

  -- an acceptance has written a record that fits
  pub wrote : IsAccepted (write_plan_call words bytes id).answer → Fits words (length bytes) id × (write_plan_call words bytes id ≡ written (plan_record_of id words) bytes)
  wrote = by (call words bytes id)
    where
      by : {x : After (List ℕ)} → Ruled (unwritten bytes) (written (plan_record_of id words) bytes) words (length bytes) id x → IsAccepted x.answer →
          Fits words (length bytes) id × (x ≡ written (plan_record_of id words) bytes)
      by (few h) z = absurd (eqb-false few_words 0 refl z)
      by (bad-segments w o) z = absurd (eqb-false bad_plan 0 refl z)
      by (bad-nodes w s o) z = absurd (eqb-false bad_plan 0 refl z)
      by (big c o) z = absurd (eqb-false big_word 0 refl z)
      by (short c s h) z = absurd (eqb-false wrong_length 0 refl z)
      by (fits f) z = (f, refl)

  -- and what was written stands at the front
  pub front : {a : After (List ℕ)} → a ≡ written (plan_record_of id words) bytes → take a.answer.value a.lent ≡ plan_record_of id words
  front e = ap (λ (a : After (List ℕ)). take a.answer.value a.lent) e ∙ take-append_seam (plan_record_of id words) (drop (length (plan_record_of id words)) bytes)

-- the promises
pub of-plan-records : OfPlanRecords
of-plan-records = record {
  reading = λ plan words. promised (read_plan_call plan words) (read_plan_rules plan words) (λ v. v ≡ id_in plan) (single _ _, (plan-single plan, tt)) (λ v w e f. e ∙ sym f)
      (read-decides plan words) (unread-kept plan words) (read-filled plan words);
  refuses = λ plan number place. (λ e. (refused-rule plan (refusal number place) e).0, λ f. rule-refused plan f);
  accepts = held;
  writing = λ words bytes id. promised (write_plan_call words bytes id) (write_plan_rules words bytes id) (λ v. v ≡ length (plan_record_of id words))
      (single _ _, (single-at _ _ _, (single-at _ _ _, (single _ _, (single-at _ _ _, tt))))) (λ v w e f. e ∙ sym f)
      (write-decides words bytes id) (unwritten-kept words bytes id) (λ z. ap (λ (a : After (List ℕ)). a.lent) (wrote words bytes id z).1);
  back = λ words bytes id a e z. let w = wrote words bytes id (rw e at z) in ap plan_of (front words bytes id (e ∙ w.1)) ∙ write-back w.0;
  again = λ plan words bytes id found a b e h room w. w ∙ write_again plan words e h bytes b room;
  one-record = λ s r id found b c e f. read_again s b e ∙ sym (read_again r c f);
  longest = λ words bytes id a e z. let w = wrote words bytes id (rw e at z) in let c = w.0.counted in
      rw (ap (λ (y : After (List ℕ)). y.answer.value) (e ∙ w.1)) (plan-length id words c.segments-high c.nodes-high);
}

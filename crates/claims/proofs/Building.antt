-- Walking a file answers by its rules: the cost and the length are tried first, and the walk is then ended just by the rules of its lengths. The records that it gives
-- back lie in the file, and what is counted of each is told by planning it.
use mathlib.Core.Path.{◌≡◌, refl, sym, ap, ◌∙◌}
use mathlib.Core.Logic.{◌⊎◌, ◌↔◌, inl, inr, ⊎_elim}
use mathlib.Core.Bool.{Bool, true, false}
use mathlib.Core.List.{List, [], ◌++◌, append-nil}
use Prim.Native.Nat.{ℕ, ◌≤◌, ◌<◌}
use native.Mathlib.Nat.{mul-le-mul_right}
use native.Mathlib.Omega.{arith}
use lib.Dec.{eqb, ltb}
use lib.ListN.{length, drop, take-append-drop}
use lib.Seq.{take-length}
use borrow.Author.Tests.{ne_eqb, lt-ltb, ltb-true}
use Rattle.std.specs.Prelude.{Result, Ok, Err, ⊤}
use Rattle.plain.specs.Pick.{one}
use Rattle.plain.specs.Sums.{max_to}
use Rattle.plain.proofs.Lists.{lt-or-ge}
use Rattle.plain.proofs.Sums.{le-max_to, max_to-is}
use Rattle.refusals.specs.declared.Refusal.{Refusal}
use Rattle.refusals.specs.After.{After}
use Rattle.tables.specs.declared.TaskTable.{TaskTable}
use Rattle.tables.specs.Limits.{million}
use Rattle.numbers.specs.Shortest.{Bytes}
use Rattle.plans.specs.Accepted as plan
use Rattle.plans.specs.Shares.{density}
use Rattle.plans.specs.Calls.{unplanned, planned, on_task, plan_call}
use Rattle.plans.proofs.Cases as reading
use Rattle.plans.proofs.Tests.{not-both, plan-read}
use Rattle.files.specs.File.{Walk, walk}
use Rattle.files.specs.Laid.{file_of, Laid, Refuses}
use Rattle.files.specs.Laid.Laid.{none}
use Rattle.files.proofs.Walked.{laid-past, laid-whole, laid-all, rule-refused, Comes, comes, refused-rule}
use Rattle.files.proofs.Walked.Comes.{whole, stopped}
use Rattle.files.proofs.Filed.{laid-filed, filed-laid}
use Rattle.buildings.specs.declared.Building.{Building}
use Rattle.buildings.specs.Task.{dense_in}
use Rattle.buildings.specs.Counts.{no_counts}
use Rattle.buildings.specs.Building.{before_walking, building_call}
use Rattle.buildings.proofs.Cases.{Before, before, none_before, call-refused, call-walked}
use Rattle.buildings.proofs.Cases.Before.{dear, long, walks}
use Rattle.buildings.proofs.Alone as planning
use Rattle.buildings.proofs.Totals.{records-all, segments-all, numbers-own}
use Rattle.claims.specs.Rule.{rule_by, Decides}
use Rattle.claims.specs.Plan.{exact_of, GoodPlan}
use Rattle.claims.specs.Building.{building_rules, records_of, building_value, Alone, OfBuildings}
use Rattle.claims.proofs.Rule.{Single, single, single-by, gives, not-given}
use Rattle.claims.proofs.Promise.{promised, narrowed}
use Rattle.claims.proofs.Plan.{good-plan}

module _ (file : List ℕ) where
  -- the walk's rules give one refusal, and none where it comes to the file's end
  walk-single : Single (rule_by (Refuses file))
  walk-single = single-by (Refuses file) (walk file).outcome (λ k place f. rule-refused file f)

  not-ended : (walk file).outcome ≡ Ok tt → (r : Refusal) → rule_by (Refuses file) r → ⊥
  not-ended e r (k, p, f, d) = not-both (rule-refused file f) e

  -- some records lie before a place, and these are the walk's
  laid : (place : ℕ) × Laid file (records_of file) place
  laid = by (comes file)
    where
      by : {w : Walk} → Comes file w → (place : ℕ) × Laid file w.records place
      by (whole l) = (_, l)
      by (stopped l f) = (_, l)

  all_laid : (walk file).outcome ≡ Ok tt → Laid file (records_of file) (length file)
  all_laid = by (comes file)
    where
      by : {w : Walk} → Comes file w → w.outcome ≡ Ok tt → Laid file w.records (length file)
      by (whole l) e = l
      by (stopped l f) e = absurd (not-both refl e)

  apart : Bytes file → (rest : List ℕ) × (file ≡ file_of (records_of file) ++ rest)
  apart b = let l = laid in (drop l.0 file, sym (take-append-drop l.0 file) ∙ ap (λ (x : List ℕ). x ++ drop l.0 file) (laid-filed file b l.1))

-- a file of records is walked to its end
walks-whole : (records : List (List ℕ)) → length (file_of records) ≤ 1048576 → walk (file_of records) ≡ record { records = records; outcome = Ok tt }
walks-whole records h =
    let file = file_of records in
    laid-whole file (filed-laid file [] records none (sym (append-nil file)) (omega arith) (omega arith)) (omega arith)

module _ (file : List ℕ) (cost : ℕ) where
  -- its rules decide its answer
  decides : Decides (building_rules file cost) (building_value file) (building_call file cost).answer
  decides = by (before (length file) cost) refl
    where
      walked : (o : Result ⊤ Refusal) → (walk file).outcome ≡ o → cost ≤ 255 → length file ≤ 1048576 → before_walking (length file) cost ≡ Ok tt → Decides (building_rules file cost) (building_value file) (building_call file cost).answer
      walked (Ok done) e c h q = rw (call-walked file cost q, e)
          (inr (not-given (λ l. omega arith), inr (not-given (λ l. omega arith), inr (not-ended file e, (_, refl, refl)))))
      walked (Err r) e c h q = let w = refused-rule file r e in rw (call-walked file cost q, e)
          (inr (not-given (λ l. omega arith), inr (not-given (λ l. omega arith), inl (r, (r.number, r.place, w.0, w.1), refl))))

      by : {o : Result ⊤ Refusal} → Before (length file) cost o → before_walking (length file) cost ≡ o → Decides (building_rules file cost) (building_value file) (building_call file cost).answer
      by (dear h) q = rw (call-refused file cost q) (inl (gives 26 h refl))
      by (long c h) q = rw (call-refused file cost q) (inr (not-given (λ l. omega arith), inl (gives 27 h refl)))
      by (walks c h) q = walked (walk file).outcome refl c h q

  -- 26 and 27 count nothing
  uncounted : (255 < cost) ⊎ (1048576 < length file) → (building_call file cost).counts ≡ no_counts
  uncounted = by (before (length file) cost) refl
    where
      by : {o : Result ⊤ Refusal} → Before (length file) cost o → before_walking (length file) cost ≡ o → (255 < cost) ⊎ (1048576 < length file) → (building_call file cost).counts ≡ no_counts
      by (dear h) q x = rw (call-refused file cost q)
      by (long c h) q x = rw (call-refused file cost q)
      by (walks c h) q x = absurd (⊎_elim (λ (l : 255 < cost). omega arith) (λ (l : 1048576 < length file). omega arith) x)

-- a record goes the way that planning goes with it
alone : (bytes words : List ℕ) (cost : ℕ) → 387 ≤ length words → cost ≤ 255 → Alone bytes words cost
alone bytes words cost room c = by (planning.alone bytes cost c)
  where
    free : {o : Result ⊤ Refusal} → reading.Before (length words) cost o → o ≡ Ok tt
    free (reading.Before.dear h) = absurd (omega arith)
    free (reading.Before.few c h) = absurd (omega arith)
    free (reading.Before.reads c h) = refl

    call : plan_call bytes words cost ≡ on_task (unplanned words) (planned words) bytes cost
    call = plan-read bytes words cost (free (reading.before (length words) cost))

    by : planning.Alone bytes cost → Alone bytes words cost
    by (planning.Alone.turned r own is) =
        let told = ap (λ (x : After (List ℕ)). x.answer.refusal) (call ∙ is (After (List ℕ)) (unplanned words) (planned words)) in
        record {
          accepted = λ f z. absurd (omega (arith, planning.own-low own, told));
          refused = λ f z. is ℕ (λ _. 0) f;
          number = λ k h. is ℕ (λ r. one (eqb r.number k)) (λ _. 0) ∙ ap (λ (n : ℕ). one (eqb n k)) (sym told);
        }
    by (planning.Alone.taken ok is) =
        let told = ap (λ (x : After (List ℕ)). x.answer.refusal) (call ∙ is (After (List ℕ)) (unplanned words) (planned words)) in
        record {
          accepted = λ f z. is ℕ (λ _. 0) f;
          refused = λ f z. absurd (z told);
          number = λ k h. is ℕ (λ r. one (eqb r.number k)) (λ _. 0) ∙ sym (ap (λ (n : ℕ). one (eqb n k)) told ∙ rw (ne_eqb 0 k (λ q. omega arith)));
        }

-- a density is above a million just where its fraction is above one
dense-exact : (t : TaskTable) → plan.Accepted t → (dense_in t ≡ 1) ↔ ((v : ℕ) × (v < t.count) × ((exact_of t v).lower < (exact_of t v).upper))
dense-exact t ok = (there (ltb million (max_to t.count (density t))) refl, back)
  where
    good : GoodPlan t
    good = good-plan ok

    -- of one node, either way
    above : (v : ℕ) → v < t.count → million < density t v → (exact_of t v).lower < (exact_of t v).upper
    above v h l = ⊎_elim
        (λ (q : (exact_of t v).lower < (exact_of t v).upper). q)
        (λ (q : (exact_of t v).upper ≤ (exact_of t v).lower). absurd (omega (arith, good.least v million h (omega arith))))
        (lt-or-ge (exact_of t v).lower (exact_of t v).upper)

    below : (v : ℕ) → v < t.count → (exact_of t v).lower < (exact_of t v).upper → million < density t v
    below v h l = ⊎_elim
        (λ (q : million < density t v). q)
        (λ (q : density t v ≤ million). absurd (omega (arith, good.enough v h, mul-le-mul_right (exact_of t v).lower q)))
        (lt-or-ge million (density t v))

    there : (b : Bool) → ltb million (max_to t.count (density t)) ≡ b → one b ≡ 1 → (v : ℕ) × (v < t.count) × ((exact_of t v).lower < (exact_of t v).upper)
    there false e q = absurd (omega arith)
    there true e q = let most = ltb-true million (max_to t.count (density t)) e in ⊎_elim
        (λ (z : max_to t.count (density t) ≡ 0). absurd (omega arith))
        (λ (w : (v : ℕ) × (v < t.count) × (max_to t.count (density t) ≡ density t v)). (w.0, w.1, above w.0 w.1 (omega (arith, w.2))))
        (max_to-is t.count (density t))

    back : (v : ℕ) × (v < t.count) × ((exact_of t v).lower < (exact_of t v).upper) → dense_in t ≡ 1
    back (v, h, l) = rw (lt-ltb million (max_to t.count (density t)) (omega (arith, below v h l, le-max_to t.count (density t) v h)))

-- the promises
pub of-buildings : OfBuildings
of-buildings = record {
  call = λ file cost. narrowed (λ a (counts, e, l). rw (ap (λ (b : Building). b.answer) e, l))
      (promised (record { answer = (building_call file cost).answer; lent = file }) (building_rules file cost) (building_value file) (single _ _, (single _ _, (walk-single file, tt))) (λ v w e f. e ∙ sym f)
      (decides file cost) (λ z. refl) (λ z. refl));
  one-building = λ file cost b c e f. e ∙ sym f;
  counts = λ file cost b e c h. rw (e, call-walked file cost (none_before c h));
  uncounted = λ file cost b e x. rw e (uncounted file cost x);
  laid = laid;
  all = λ file records place l. (_, ap (λ (w : Walk). w.records) (laid-past file l).is);
  last = λ file records place l f. laid-all file l f;
  apart = apart;
  whole = λ file b e. sym (take-length file) ∙ laid-filed file b (all_laid file e);
  walks = walks-whole;
  alone = alone;
  records = λ records cost c. records-all cost c records;
  segments = λ records cost c. segments-all cost c records;
  numbers = λ records cost k c f n m. numbers-own cost c records k f n m;
  dense = dense-exact;
}

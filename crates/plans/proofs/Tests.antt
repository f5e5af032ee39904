-- What a table comes to by the tests that the planner makes, in their order.
use Rattle.std.specs.Prelude.{Result, Ok, Err, ⊤}
use mathlib.Core.Path.{◌≡◌, refl, sym, ap, ◌∙◌}
use mathlib.Core.Bool.{Bool, true, false}
use mathlib.Core.List.{List}
use Prim.Native.Nat.{ℕ, ◌≤◌, ◌<◌}
use native.Mathlib.Decide.{ℕ_discrete}
use native.Mathlib.Omega.{arith}
use borrow.Author.Tests.{lt-ltb, le-ltb, ltb-false, eq-eqb, ne_eqb, eqb-true, eqb-false}
use lib.Dec.{eqb, ltb}
use lib.ListN.{length}
use Rattle.plain.specs.Pick.{pick}
use Rattle.refusals.specs.Numbers.{long_path}
use Rattle.refusals.specs.declared.Refusal.{Refusal}
use Rattle.refusals.specs.declared.Answer.{Answer}
use Rattle.refusals.specs.Refusal.{refusal, refusal_of}
use Rattle.refusals.specs.Answer.{accepted, refused}
use Rattle.refusals.specs.After.{After}
use Rattle.tables.specs.declared.TaskTable.{TaskTable}
use Rattle.tables.specs.Limits.{cost_max}
use Rattle.tables.specs.Cost.{costed}
use Rattle.records.specs.declared.Reading.{Reading}
use Rattle.records.specs.Nodes.{with_table}
use Rattle.records.specs.Reading.{reading_of}
use Rattle.ways.specs.Closure.{loops}
use Rattle.plans.specs.Diagram.{path, segment_count}
use Rattle.plans.specs.Words.{word_count, words_max, written}
use Rattle.plans.specs.Calls.{before_reading, loop_in, on_table, task_of, on_task, unplanned, planned, plan_call}
use Rattle.plans.specs.Inner.Planned.{Planned}
use Rattle.plans.specs.Inner.Drawn.{outcome_of, passed, tested}
use Rattle.plans.specs.Inner.Table.{unless_later, table_plan}
use Rattle.plans.proofs.Cases.{Before, before}
use Rattle.plans.proofs.Cases.Before.{dear, few, reads}

-- an outcome is not a refusal and an acceptance at once
pub not-both : {o : Result ⊤ Refusal} {r : Refusal} → o ≡ Err r → o ≡ Ok tt → ⊥
not-both p q = cc

module _ {A : Type 0} (refuse : Refusal → A) (go : TaskTable → A) (t : TaskTable) where
  -- 10
  pub on-loop : loops t.parents t.count ≡ true → on_table refuse go t ≡ refuse (loop_in t)
  unfolding on_table
  on-loop e = rw e

  -- 11
  pub on-long : loops t.parents t.count ≡ false → t.period < path t → on_table refuse go t ≡ refuse (refusal long_path 0)
  unfolding on_table
  on-long e h = rw (e, lt-ltb t.period (path t) h)

  -- neither
  pub on_fits : loops t.parents t.count ≡ false → path t ≤ t.period → on_table refuse go t ≡ go t
  unfolding on_table
  on_fits e h = rw (e, le-ltb t.period (path t) h)

  -- the same by the outcome that a diagram tells
  pub table-refused : {r : Refusal} → outcome_of t ≡ Err r → on_table refuse go t ≡ refuse r
  unfolding on_table
  table-refused {r} = by (loops t.parents t.count) (ltb t.period (path t))
    where
      by : (b c : Bool) → ◌≡◌ {A = Result ⊤ Refusal} (pick b (Err (loop_in t)) (pick c (Err (refusal long_path 0)) (Ok tt))) (Err r) → pick b (refuse (loop_in t)) (pick c (refuse (refusal long_path 0)) (go t)) ≡ refuse r
      by true c e = let same : r ≡ loop_in t = cc in rw same
      by false true e = let same : r ≡ refusal long_path 0 = cc in rw same
      by false false e = absurd (not-both e refl)

  pub table-accepted : outcome_of t ≡ Ok tt → on_table refuse go t ≡ go t
  unfolding on_table
  table-accepted = by (loops t.parents t.count) (ltb t.period (path t))
    where
      by : (b c : Bool) → ◌≡◌ {A = Result ⊤ Refusal} (pick b (Err (loop_in t)) (pick c (Err (refusal long_path 0)) (Ok tt))) (Ok tt) → pick b (refuse (loop_in t)) (pick c (refuse (refusal long_path 0)) (go t)) ≡ go t
      by true c e = absurd (not-both refl e)
      by false true e = absurd (not-both refl e)
      by false false e = refl

-- a record, by the outcome of its reading
module _ {A : Type 0} (refuse : Refusal → A) (go : TaskTable → A) (bytes : List ℕ) (cost : ℕ) where
  pub task-refused : {r : Refusal} → (reading_of bytes).outcome ≡ Err r → on_task refuse go bytes cost ≡ refuse r
  unfolding on_task
  task-refused e = rw e

  pub task-read : (reading_of bytes).outcome ≡ Ok tt → on_task refuse go bytes cost ≡ on_table refuse go (task_of bytes cost)
  unfolding on_task
  task-read e = rw e

  -- the same by what was read
  pub task-out : {r : Refusal} → with_table (Err r) ≡ reading_of bytes → on_task refuse go bytes cost ≡ refuse r
  task-out e = task-refused (ap (λ (x : Reading). x.outcome) (sym e))

  pub task-table : {table : TaskTable} → with_table (Ok table) ≡ reading_of bytes → on_task refuse go bytes cost ≡ on_table refuse go (costed table cost)
  task-table e =
      task-read (ap (λ (x : Reading). x.outcome) (sym e)) ∙ ap (λ (x : Reading). on_table refuse go (costed x.table cost)) (sym e)

-- planning, by the outcome of the rules before the record's
module _ (bytes words : List ℕ) (cost : ℕ) where
  pub plan-refused : {r : Refusal} → before_reading (length words) cost ≡ Err r → plan_call bytes words cost ≡ unplanned words r
  unfolding plan_call
  plan-refused e = rw e

  pub plan-read : before_reading (length words) cost ≡ Ok tt → plan_call bytes words cost ≡ on_task (unplanned words) (planned words) bytes cost
  unfolding plan_call
  plan-read e = rw e

-- where these refuse nothing, the cost is in range and the words are enough
pub ready : (words cost : ℕ) → before_reading words cost ≡ Ok tt → (cost ≤ cost_max) × (words_max ≤ words)
ready words cost = by (before words cost)
  where
    by : {o : Result ⊤ Refusal} → Before words cost o → o ≡ Ok tt → (cost ≤ cost_max) × (words_max ≤ words)
    by (dear h) e = absurd (not-both refl e)
    by (few c h) e = absurd (not-both refl e)
    by (reads c w) e = (c, w)

-- a table whose planning is refused goes by that refusal
pub table-told : {A : Type 0} (refuse : Refusal → A) (go : TaskTable → A) (words : List ℕ) (t : TaskTable) {a : Answer} →
    a ≡ (on_table (unplanned words) (planned words) t).answer → (a.refusal ≡ 0 → ⊥) → refuse (refusal_of a) ≡ on_table refuse go t
unfolding on_table
table-told refuse go words t {a} answered n = by (loops t.parents t.count) (ltb t.period (path t)) answered
  where
    by : (b c : Bool) → a ≡ (pick b (unplanned words (loop_in t)) (pick c (unplanned words (refusal long_path 0)) (planned words t))).answer
        → refuse (refusal_of a) ≡ pick b (refuse (loop_in t)) (pick c (refuse (refusal long_path 0)) (go t))
    by true c e = rw e
    by false true e = rw e
    by false false e = absurd (n (ap (λ (x : Answer). x.refusal) e))

-- where nothing is refused, however a refusal is told, there is no loop, the path fits, and the later rules refuse nothing
pub pass-told : {E : Type 0} (tell : Refusal → E) (t : TaskTable) (later : Result ⊤ E) → on_table (λ r. Err (tell r)) (λ _. later) t ≡ Ok tt
    → (loops t.parents t.count ≡ false) × (path t ≤ t.period) × (later ≡ Ok tt)
unfolding on_table
pass-told {E} tell t later = by (loops t.parents t.count) (ltb t.period (path t)) refl refl
  where
    by : (b c : Bool) → loops t.parents t.count ≡ b → ltb t.period (path t) ≡ c → ◌≡◌ {A = Result ⊤ E} (pick b (Err (tell (loop_in t))) (pick c (Err (tell (refusal long_path 0))) later)) (Ok tt)
        → (loops t.parents t.count ≡ false) × (path t ≤ t.period) × (later ≡ Ok tt)
    by true c l h e = absurd cc
    by false true l h e = absurd cc
    by false false l h e = (l, ltb-false t.period (path t) h, e)

-- an answer that lets pass refuses nothing; what goes out is the answer, and it refuses
pub passed-none : (later : Answer) → passed later ≡ Ok tt → later.refusal ≡ 0
passed-none later = by (eqb later.refusal 0) refl
  where
    by : (z : Bool) → eqb later.refusal 0 ≡ z → ◌≡◌ {A = Result ⊤ Answer} (pick z (Ok tt) (Err later)) (Ok tt) → later.refusal ≡ 0
    by true k e = eqb-true later.refusal 0 k
    by false k e = absurd cc

pub passed-out : (later : Answer) {a : Answer} → passed later ≡ Err a → (later.refusal ≡ 0 → ⊥) × (later ≡ a)
passed-out later {a} = by (eqb later.refusal 0) refl
  where
    by : (z : Bool) → eqb later.refusal 0 ≡ z → ◌≡◌ {A = Result ⊤ Answer} (pick z (Ok tt) (Err later)) (Err a) → (later.refusal ≡ 0 → ⊥) × (later ≡ a)
    by true k e = absurd cc
    by false k e = (eqb-false later.refusal 0 k, cc)

-- ---- the tests after the run
module _ (t : TaskTable) (later : Answer) where
  -- what they come to
  abbrev pub rules : Result ⊤ Answer
  rules = on_table (λ r. Err (refused r)) (λ _. passed later) t

  -- what three tests pick, and what they leave of the words
  abbrev pub picked : (round long none : Bool) → Result ⊤ Answer
  picked round long none = pick round (Err (refused (loop_in t))) (pick long (Err (refused (refusal long_path 0))) (pick none (Ok tt) (Err later)))

  abbrev leaves : (round long none : Bool) → List ℕ → After (List ℕ)
  leaves round long none words = pick round (unplanned words (loop_in t)) (pick long (unplanned words (refusal long_path 0)) (pick none (planned words t) (record { answer = later; lent = words })))

  -- fewer nodes done than there are tell the loop, and without one the path told is the table's
  pub tested-so : (done P : ℕ) → loops t.parents t.count ≡ ltb done t.count → (loops t.parents t.count ≡ false → P ≡ path t) → tested (ltb done t.count) (loop_in t) (ltb t.period P) later ≡ rules
  unfolding on_table
  tested-so done P told path-is = ap (λ (b : Bool). tested b (loop_in t) (ltb t.period P) later) (sym told) ∙ by (loops t.parents t.count) refl
    where
      by : (b : Bool) → loops t.parents t.count ≡ b → tested b (loop_in t) (ltb t.period P) later ≡ tested b (loop_in t) (ltb t.period (path t)) later
      by true e = refl
      by false e = rw (path-is e)

  -- a refusal goes out, and the words stay as they were
  pub rules-refuse : {a : Answer} (words : List ℕ) → rules ≡ Err a → (a.refusal ≡ 0 → ⊥) × (table_plan later words t ≡ record { answer = a; lent = words })
  unfolding on_table
  rules-refuse {a} words = by (loops t.parents t.count) (ltb t.period (path t)) (eqb later.refusal 0) refl
    where
      goes : {told : Answer} → (told.refusal ≡ 0 → ⊥) → ◌≡◌ {A = Result ⊤ Answer} (Err told) (Err a) → (a.refusal ≡ 0 → ⊥) × (◌≡◌ {A = After (List ℕ)} (record { answer = told; lent = words }) (record { answer = a; lent = words }))
      goes {told} n e = let same : told ≡ a = cc in (rw same at n, λ i. record { answer = same i; lent = words })

      by : (b c z : Bool) → eqb later.refusal 0 ≡ z → picked b c z ≡ Err a → (a.refusal ≡ 0 → ⊥) × (leaves b c z words ≡ record { answer = a; lent = words })
      by true c z l e = goes (λ n. omega arith) e
      by false true z l e = goes (λ n. omega arith) e
      by false false true l e = absurd cc
      by false false false l e = goes (eqb-false later.refusal 0 l) e

  -- no refusal: there is no loop, the path fits, and the later rules refuse nothing
  pub rules-pass : rules ≡ Ok tt → (loops t.parents t.count ≡ false) × (path t ≤ t.period) × (later.refusal ≡ 0)
  rules-pass e = let p = pass-told refused t (passed later) e in (p.0, p.1, passed-none later p.2)

-- a plan that a later rule refuses, and one that none does
module _ (later : Answer) (words : List ℕ) (t : TaskTable) where
  pub later-refuses : (later.refusal ≡ 0 → ⊥) → unless_later later words t ≡ record { answer = later; lent = words }
  later-refuses n = rw (ne_eqb later.refusal 0 n)

  pub later-accepts : later.refusal ≡ 0 → unless_later later words t ≡ planned words t
  later-accepts e = rw (eq-eqb later.refusal 0 e)

  -- what the planner promises of a refusal is the refusal of the rules, and the words that were lent
  pub told-out : {a : Answer} {w : List ℕ} → (a.refusal ≡ 0 → ⊥) → record { answer = a; lent = w } ≡ table_plan later words t → (rules t later ≡ Err a) × (w ≡ words)
  unfolding on_table
  told-out {a} {w} n = by (loops t.parents t.count) (ltb t.period (path t)) (eqb later.refusal 0)
    where
      goes : {told : Answer} → ◌≡◌ {A = After (List ℕ)} (record { answer = a; lent = w }) (record { answer = told; lent = words }) → (◌≡◌ {A = Result ⊤ Answer} (Err told) (Err a)) × (w ≡ words)
      goes e = (ap (λ (x : After (List ℕ)). Err x.answer) (sym e), ap (λ (x : After (List ℕ)). x.lent) e)

      by : (b c z : Bool) → record { answer = a; lent = w } ≡ leaves t later b c z words → (picked t later b c z ≡ Err a) × (w ≡ words)
      by true c z e = goes e
      by false true z e = goes e
      by false false false e = goes e
      by false false true e = absurd (n (ap (λ (x : After (List ℕ)). x.answer.refusal) e))

  -- `refused r` needs no such premise: a plan is told with a value above 0, so it is none, and r is not numbered 0
  pub refused-out : {r : Refusal} {w : List ℕ} → record { answer = refused r; lent = w } ≡ table_plan later words t → (r.number ≡ 0 → ⊥) × (rules t later ≡ Err (refused r)) × (w ≡ words)
  unfolding on_table
  refused-out {r} {w} e = let n = by (loops t.parents t.count) (ltb t.period (path t)) (eqb later.refusal 0) refl e in let p = told-out n e in (n, p.0, p.1)
    where
      by : (b c z : Bool) → eqb later.refusal 0 ≡ z → record { answer = refused r; lent = w } ≡ leaves t later b c z words → r.number ≡ 0 → ⊥
      by true c z l e none = let told = ap (λ (x : After (List ℕ)). x.answer.refusal) e in omega arith
      by false true z l e none = let told = ap (λ (x : After (List ℕ)). x.answer.refusal) e in omega arith
      by false false true l e none = let value = ap (λ (x : After (List ℕ)). x.answer.value) e in omega arith
      by false false false l e none = eqb-false later.refusal 0 l (sym (ap (λ (x : After (List ℕ)). x.answer.refusal) e) ∙ none)

  -- and of a plan, that the later rules refuse nothing, and that it is written
  pub told-in : {a : Answer} {w : List ℕ} → a.refusal ≡ 0 → Planned t → record { answer = a; lent = w } ≡ table_plan later words t
      → (later.refusal ≡ 0) × (a ≡ accepted (word_count (segment_count t) t.count)) × (w ≡ written t words)
  told-in {a} {w} z ok e = by (ℕ_discrete later.refusal 0)
    where
      left : {x : After (List ℕ)} → unless_later later words t ≡ x → (a ≡ x.answer) × (w ≡ x.lent)
      left f = let g = e ∙ on_fits (unplanned words) (unless_later later words) t ok.free ok.fits ∙ f in (ap (λ (p : After (List ℕ)). p.answer) g, ap (λ (p : After (List ℕ)). p.lent) g)

      by : Dec (later.refusal ≡ 0) → (later.refusal ≡ 0) × (a ≡ accepted (word_count (segment_count t) t.count)) × (w ≡ written t words)
      by (yes l) = let so = left (later-accepts l) in (l, so.0, so.1)
      by (no m) = absurd (m (sym (ap (λ (x : Answer). x.refusal) (left (later-refuses m)).0) ∙ z))

-- so of `refused r`, where no later rule is tried: everything that goes by a table's refusal goes by r
pub refused-told : {A : Type 0} (refuse : Refusal → A) (go : TaskTable → A) (words : List ℕ) (t : TaskTable) {r : Refusal} {w : List ℕ} →
    record { answer = refused r; lent = w } ≡ table_plan (accepted 0) words t → refuse r ≡ on_table refuse go t
refused-told refuse go words t {r} e =
    table-told refuse go words t {a = refused r} (ap (λ (x : After (List ℕ)). x.answer) e) (refused-out (accepted 0) words t {r = r} e).0

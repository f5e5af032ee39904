-- A record's rules decide what its task comes to: in every case of the task the earlier rules are shown not to hold, and the rule of the case is.
use mathlib.Core.Path.{◌≡◌, refl, sym, ap, ◌∙◌}
use mathlib.Core.Logic.{inl, inr}
use mathlib.Core.Bool.{true, false}
use mathlib.Core.List.{List, ◌++◌}
use Prim.Native.Nat.{ℕ, ◌≤◌}
use native.Mathlib.Omega.{arith}
use borrow.Author.Tests.{eqb-false}
use Rattle.std.specs.Prelude.{Ok, Err}
use Rattle.plain.proofs.Lists.{one-least}
use Rattle.refusals.specs.Numbers.{loop, long_path}
use Rattle.refusals.specs.declared.Refusal.{Refusal}
use Rattle.refusals.specs.declared.Answer.{Answer}
use Rattle.refusals.specs.Refusal.{refusal, looped}
use Rattle.refusals.specs.Answer.{refused}
use Rattle.refusals.proofs.Readers.{readers-low, readers-not-loop}
use Rattle.tables.specs.declared.TaskTable.{TaskTable}
use Rattle.tables.proofs.Cost.{costed-range, plannable}
use Rattle.records.specs.declared.Reading.{Reading}
use Rattle.records.specs.Reading.{reading_of}
use Rattle.numbers.specs.Number.{record_more}
use Rattle.numbers.specs.Form.{Long, Padded}
use Rattle.records.specs.Expected.{Due, range, Refuses}
use Rattle.records.specs.Expected.Due.{edition, id, period, count, execution, parent_count, parent}
use Rattle.records.specs.Expected.Refuses.{ends, long as too_long, padded, outside, follow, nothing_runs}
use Rattle.records.proofs.Answers.{all-zero-edition, accepted-table, refused-table}
use Rattle.records.proofs.Expected.{rule-refused, refused-rule, spelt-read, read-spelt, refused-told}
use Rattle.writers.proofs.Trip.{spells, spelt}
use Rattle.ways.specs.Reaches.{Reaches}
use Rattle.ways.specs.Inner.Tidy.{Tidy}
use Rattle.ways.specs.Closure.{loops}
use Rattle.ways.proofs.Closure.{loops-no}
use Rattle.rings.specs.Ring.{named, ring}
use Rattle.rings.specs.Round.{Smallest}
use Rattle.rings.proofs.Round.{one-round, named-smallest}
use Rattle.plans.specs.Accepted.{Accepted as Accepted-table}
use Rattle.plans.specs.Calls.{loop_in, task_of}
use Rattle.plans.proofs.Tests.{not-both}
use Rattle.plans.proofs.Table.{tidy}
use Rattle.plans.proofs.Cases.{Tasking}
use Rattle.plans.proofs.Cases.Tasking.{unread, round, long, goes}
use Rattle.claims.specs.Rule.{Rule, Decides}
use Rattle.claims.specs.Record.{reader_rule, loop_rule, record_rules, NamesLoop, Faulty, NoneRuns, OfReading}
use Rattle.claims.proofs.Rule.{Single, Singles, single, gives, not-given, single-by}

-- the outcome that a rule of the reader's gives
outcome-of : {bytes : List ℕ} {number place : ℕ} → Refuses bytes number place → (reading_of bytes).outcome ≡ Err (refusal number place)
outcome-of {bytes} f = ap (λ (x : Reading). x.outcome) (rule-refused bytes f)

-- a range is refused by 3 to 8
pub range-number : (d : Due) → (3 ≤ (range d).broken) × ((range d).broken ≤ 8)
range-number edition = (omega arith, omega arith)
range-number (id x) = (omega arith, omega arith)
range-number (period x d) = (omega arith, omega arith)
range-number (count x d p) = (omega arith, omega arith)
range-number (execution t i) = (omega arith, omega arith)
range-number (parent_count t i e) = (omega arith, omega arith)
range-number (parent t i e left low set) = (omega arith, omega arith)

-- so 2, 18 and 21 are each given by one rule alone
abbrev FaultOf : List ℕ → (k place : ℕ) → Type 0
FaultOf bytes k place = (k ≡ 2 → Faulty (Long record_more) bytes place) × (k ≡ 18 → Faulty (Padded record_more) bytes place) × (k ≡ 21 → NoneRuns bytes place)

fault-of : {bytes : List ℕ} {k place : ℕ} → Refuses bytes k place → FaultOf bytes k place
fault-of (ends e f) = (λ q. absurd (omega arith), λ q. absurd (omega arith), λ q. absurd (omega arith))
fault-of (too_long e f) = (λ q. (_, e, f), λ q. absurd (omega arith), λ q. absurd (omega arith))
fault-of (padded e f) = (λ q. absurd (omega arith), λ q. (_, e, f), λ q. absurd (omega arith))
fault-of (outside {due = d} e w o) = let n = range-number d in (λ q. absurd (omega arith), λ q. absurd (omega arith), λ q. absurd (omega arith))
fault-of (follow e h) = (λ q. absurd (omega arith), λ q. absurd (omega arith), λ q. absurd (omega arith))
fault-of (nothing_runs {t = t} e z) = (λ q. absurd (omega arith), λ q. absurd (omega arith), λ q. (refl, t, e, all-zero-edition e z, z))

-- what is promised of the reader
pub reading : OfReading
reading = record {
  refuses = λ bytes number place. (λ e. (refused-rule bytes (refusal number place) e).0, outcome-of);
  long = λ bytes place. (λ e. (fault-of (refused-rule bytes (refusal 2 place) e).0).0 refl, λ f. outcome-of (too_long f.1 f.2));
  padded = λ bytes place. (λ e. (fault-of (refused-rule bytes (refusal 18 place) e).0).1 refl, λ f. outcome-of (padded f.1 f.2));
  nothing_runs = λ bytes place. (λ e. (fault-of (refused-rule bytes (refusal 21 place) e).0).2 refl, λ (z, t, e, x, i). rw z (outcome-of (nothing_runs e i)));
  accepts = λ bytes t. (read-spelt bytes t, spelt-read bytes);
  reads = λ bytes t b. (spells bytes t b, spelt bytes t);
  own = λ bytes number place f. let told = refused-told bytes (refusal number place) (outcome-of f) in (told.own, told.place);
  empty = refused-table;
}

-- a refusal's number is not 0
pub unread-some : (bytes : List ℕ) (r : Refusal) → (reading_of bytes).outcome ≡ Err r → r.number ≡ 0 → ⊥
unread-some bytes r e z = let l = readers-low r.number (refused-told bytes r e).own in omega arith

-- a record that was read is refused by none of the reader's rules
read-clear : {bytes : List ℕ} → (reading_of bytes).outcome ≡ Ok tt → (r : Refusal) → reader_rule bytes r → ⊥
read-clear e r (k, p, f, d) = not-both (outcome-of f) e

-- a table that was read, by the test: none of its nodes goes round, or the one that is named does, inside its ring
module _ (bytes : List ℕ) (cost : ℕ) (e : (reading_of bytes).outcome ≡ Ok tt) where
  parents-tidy : Tidy (task_of bytes cost).parents (task_of bytes cost).count
  parents-tidy = tidy (plannable (costed-range {cost = 0} (accepted-table bytes e) (omega arith)))

  no_loop : loops (task_of bytes cost).parents (task_of bytes cost).count ≡ false → (r : Refusal) → loop_rule (task_of bytes cost) r → ⊥
  no_loop l r w = loops-no (task_of bytes cost).parents (task_of bytes cost).count parents-tidy l w.0 w.1.here

  some-loop : loops (task_of bytes cost).parents (task_of bytes cost).count ≡ true → NamesLoop (task_of bytes cost) (refused (loop_in (task_of bytes cost)))
  some-loop l =
      let n = named-smallest parents-tidy l in
      record { smallest = n; round = one-round parents-tidy (named (task_of bytes cost).parents (task_of bytes cost).count) n.here }

-- 10, by the node that is named
gives-loop : (t : TaskTable) {answer : Answer} → Smallest t.parents (loop_in t).place → answer ≡ refused (loop_in t) → (r : Refusal) × loop_rule t r × (answer ≡ refused r)
gives-loop t s e = (loop_in t, ((loop_in t).place, s, refl), e)

-- a record's rules, with those after them, decide what its task comes to
pub decided : {A : Type 0} {refuse : Refusal → A} {go : TaskTable → A} (answer : A → Answer) (told : (r : Refusal) → answer (refuse r) ≡ refused r)
    (bytes : List ℕ) (cost : ℕ) (rest : List Rule) (value : ℕ → Type 0)
    → ((reading_of bytes).outcome ≡ Ok tt → Accepted-table (task_of bytes cost) → Decides rest value (answer (go (task_of bytes cost))))
    → {x : A} → Tasking refuse go bytes cost x → Decides (record_rules bytes cost ++ rest) value (answer x)
decided answer told bytes cost rest value entry (unread r e) = let w = refused-rule bytes r e in inl (r, (r.number, r.place, w.0, w.1), told r)
decided answer told bytes cost rest value entry (round e l) = inr (read-clear e, inl (gives-loop (task_of bytes cost) (some-loop bytes cost e l).smallest (told (loop_in (task_of bytes cost)))))
decided answer told bytes cost rest value entry (long e l h) = inr (read-clear e, inr (no_loop bytes cost e l, inl (gives 11 h (told (refusal 11 0)))))
decided answer told bytes cost rest value entry (goes e ok) =
    inr (read-clear e, inr (no_loop bytes cost e ok.free, inr (not-given (λ h. let f = ok.fits in omega arith), entry e ok)))

-- the reader gives one refusal
reader-single : (bytes : List ℕ) → Single (reader_rule bytes)
reader-single bytes = single-by (Refuses bytes) (reading_of bytes).outcome (λ k place f. outcome-of f)

-- and so does 10: there is one smallest node
pub one-smallest : {P : List ℕ} {v w : ℕ} → Smallest P v → Smallest P w → v ≡ w
one-smallest {P} {v} {w} a b = one-least (λ (u : ℕ). Reaches P u u) v w a.here a.before b.here b.before

loop-single : (t : TaskTable) → Single (loop_rule t)
loop-single t = record {
  one = λ r s p q. p.2 ∙ ap (λ (v : ℕ). looped v (ring t.parents t.count v)) (one-smallest p.1 q.1) ∙ sym q.2;
  bare = λ r p n. absurd (n (ap (λ (x : Refusal). x.number) p.2));
}

pub record-singles : (bytes : List ℕ) (cost : ℕ) → Singles (record_rules bytes cost)
record-singles bytes cost = (reader-single bytes, (loop-single (task_of bytes cost), (single _ _, tt)))

-- an answer with refusal 10 is that of a task that goes round
pub names-loop : {A : Type 0} {refuse : Refusal → A} {go : TaskTable → A} (answer : A → Answer) (told : (r : Refusal) → answer (refuse r) ≡ refused r)
    (bytes : List ℕ) (cost : ℕ) → ((answer (go (task_of bytes cost))).refusal ≡ 10 → ⊥) → {x : A} → Tasking refuse go bytes cost x → (answer x).refusal ≡ 10 → NamesLoop (task_of bytes cost) (answer x)
names-loop answer told bytes cost other (unread r e) z = absurd (readers-not-loop r.number (refused-told bytes r e).own (rw (told r) at z))
names-loop answer told bytes cost other (round e l) z = rw (told (loop_in (task_of bytes cost))) (some-loop bytes cost e l)
names-loop answer told bytes cost other (long e l h) z = absurd (eqb-false long_path loop refl (rw (told (refusal long_path 0)) at z))
names-loop answer told bytes cost other (goes e ok) z = absurd (other z)

-- The reader's refusals by their rules. What the definition of reading still does from a place on depends only on what is expected there; so along
-- the numbers that are fine it is the reading of what is left. Every number is fine or is not, each fine one takes a byte at least, and so
-- every input comes to a refusal or to its table.
use Prim.Native.Nat.{ℕ, zero, suc, ◌+◌, ◌-◌, ◌^◌, ◌≤◌, ◌<◌, zero-le}
use mathlib.Core.Path.{◌≡◌, refl, sym, ap, subst, ◌∙◌}
use mathlib.Core.Logic.{inl, inr, ⊎_elim}
use mathlib.Core.Bool.{Bool, true, false}
use mathlib.Core.List.{List}
use native.Mathlib.Nat.{le_refl}
use native.Mathlib.Omega.{arith}
use lib.ListN.{length, drop, length-drop}
use lib.Dec.{ltb}
use borrow.Author.Tests.{ltb-true, ltb-false}
use Rattle.plain.specs.Pick.{pick}
use Rattle.plain.proofs.Lists.{lt-or-ge}
use Rattle.refusals.specs.declared.Refusal.{Refusal}
use Rattle.refusals.specs.Refusal.{refusal}
use Rattle.refusals.specs.Numbers.{ended, too_long, bad_edition, bad_id, bad_period, bad_count, bad_execution, not_shortest}
use Rattle.refusals.specs.Readers.{is_in, is_readers}
use Rattle.tables.specs.declared.TaskTable.{TaskTable}
use Rattle.tables.specs.Limits.{edition_max, id_max, period_max, count_max, execution_max, least_execution}
use Rattle.tables.specs.Runs.{all_zero}
use Rattle.tables.proofs.Runs.{zero-all, all-zero, runs-some, some_runs}
use Rattle.numbers.specs.Number.{record_more}
use Rattle.numbers.specs.Form.{Whole, Ends, Long, Padded}
use Rattle.std.specs.Prelude.{Result, Ok, Err, ⊤}
use Rattle.numbers.proofs.Forms as forms
use Rattle.numbers.proofs.Cases.{clash}
use Rattle.records.specs.declared.Reading.{Reading}
use Rattle.records.specs.Step.{Step, read, and_then}
use Rattle.records.specs.Ranged.{step_of, whole_in, ranged}
use Rattle.records.specs.Parents.{parents, parent_set}
use Rattle.records.specs.Nodes.{table_read, no_table, with_node, nothing_follows, nodes}
use Rattle.records.specs.Reading.{headed, reading_of}
use Rattle.records.specs.Expected.{Due, range, Next, node_from, parent_from, after, Expects, Refuses, Spelt}
use Rattle.records.specs.Expected.Due.{edition, id, period, count, execution, parent_count, parent}
use Rattle.records.specs.Expected.Next.{number, nothing}
use Rattle.records.specs.Expected.Expects.{begin, on}
use Rattle.records.specs.Expected.Refuses.{ends, long, padded, outside, follow, nothing_runs}
use Rattle.records.proofs.Cases.{then-read, then-refused, ranged-refused, ranged-out, ranged-in, some-follow, none-run, some-run, nodes-none, nodes-more}

-- the same after every value, and a step in a step
then_same : {A : Type 0} (out : Refusal → A) (step : Step) (more instead : ℕ → ℕ → A) → ((v next : ℕ) → more v next ≡ instead v next) →
    and_then out step more ≡ and_then out step instead
unfolding and_then
then_same out (Ok r) more instead e = e r.value r.next
then_same out (Err r) more instead e = refl

then-then : {A : Type 0} (out : Refusal → A) (step : Step) (then : ℕ → ℕ → Step) (more : ℕ → ℕ → A) →
    and_then out (and_then Err step then) more ≡ and_then out step (λ v next. and_then out (then v next) more)
unfolding and_then
then-then out (Ok r) then more = refl
then-then out (Err r) then more = refl

-- what reading still does from a place on: from the node count, from the period, from the id, after a node's parents
from_count : ℕ → ℕ → ℕ → List ℕ → ℕ → Reading
from_count x d p s at = and_then no_table (ranged bad_count 1 count_max s at) λ n next. nodes n 0 (headed x d p n) s next

from_period : ℕ → ℕ → List ℕ → ℕ → Reading
from_period x d s at = and_then no_table (ranged bad_period 1 period_max s at) λ p next. from_count x d p s next

from_id : ℕ → List ℕ → ℕ → Reading
from_id x s at = and_then no_table (ranged bad_id 1 id_max s at) λ d next. from_period x d s next

from_next : List ℕ → TaskTable → (i e w next : ℕ) → Reading
from_next s t i e w next = nodes (t.count - (i + 1)) (i + 1) (with_node t i e w) s next

onward : List ℕ → ℕ → Next → Reading
onward s at (number edition) = and_then no_table (ranged bad_edition 1 edition_max s at) λ x next. from_id x s next
onward s at (number (id x)) = from_id x s at
onward s at (number (period x d)) = from_period x d s at
onward s at (number (count x d p)) = from_count x d p s at
onward s at (number (execution t i)) =
    and_then no_table (ranged bad_execution (least_execution t.edition) execution_max s at) λ e next. and_then no_table (parent_set t.count s next) (from_next s t i e)
onward s at (number (parent_count t i e)) = and_then no_table (parent_set t.count s at) (from_next s t i e)
onward s at (number (parent t i e left low set)) = and_then no_table (parents (suc left) t.count low set s at) (from_next s t i e)
onward s at (nothing t) = nothing_follows t s at

-- from a node on, and from a parent on
node-onward : (s : List ℕ) (at : ℕ) (t : TaskTable) (i : ℕ) → nodes (t.count - i) i t s at ≡ onward s at (node_from t i)
unfolding onward from_next
node-onward s at t i = by (ltb i t.count) refl
  where
    by : (b : Bool) → ltb i t.count ≡ b → nodes (t.count - i) i t s at ≡ onward s at (pick b (number (execution t i)) (nothing t))
    by true e = nodes-more i t.count t s at _ refl (ltb-true _ _ e) refl
    by false e = nodes-none i t.count t s at (ltb-false _ _ e)

parent-onward : (s : List ℕ) (at : ℕ) (t : TaskTable) (i e left low set : ℕ) →
    and_then no_table (parents left t.count low set s at) (from_next s t i e) ≡ onward s at (parent_from t i e left low set)
unfolding and_then parents onward from_next
parent-onward s at t i e zero low set = node-onward s at (with_node t i e set) (i + 1)
parent-onward s at t i e (suc left) low set = refl

-- it begins with the number that is expected there, tried in its range
onward-step : (s : List ℕ) (at : ℕ) (d : Due) →
    onward s at (number d) ≡ and_then no_table (ranged (range d).broken (range d).low (range d).high s at) (λ v next. onward s next (after d v))
unfolding onward from_id from_period from_count parent_set parents
onward-step s at edition = refl
onward-step s at (id x) = refl
onward-step s at (period x d) = refl
onward-step s at (count x d p) = then_same _ _ _ _ λ n next.
    let e : n ≡ n - 0 = omega arith in ap (λ (k : ℕ). nodes k 0 (headed x d p n) s next) e ∙ node-onward s next (headed x d p n) 0
onward-step s at (execution t i) = refl
onward-step s at (parent_count t i e) = then-then _ _ _ _ ∙ then_same _ _ _ _ λ k next. parent-onward s next t i e k 0 0
onward-step s at (parent t i e left low set) = then-then _ _ _ _ ∙ then_same _ _ _ _ λ p next. parent-onward s next t i e left (p + 1) (set + 2 ^ p)

-- the number at a place, by its form
module _ (more : ℕ) (s : List ℕ) (at : ℕ) where
  pub whole-read : {v n : ℕ} → Whole more (drop at s) v n → whole_in more s at ≡ read v (at + n)
  unfolding whole_in
  whole-read (f, h) = ap (step_of (length s) at) (forms.whole-read more f h)

  pub ends_read : Ends more (drop at s) → whole_in more s at ≡ Err (refusal ended (length s))
  unfolding whole_in
  ends_read (k, h, l) = ap (step_of (length s) at) (forms.ends_read more l h)

  pub long-read : Long more (drop at s) → whole_in more s at ≡ Err (refusal too_long at)
  unfolding whole_in
  long-read (rest, l) = ap (step_of (length s) at) (forms.long-read more l)

  pub padded-read : Padded more (drop at s) → whole_in more s at ≡ Err (refusal not_shortest at)
  unfolding whole_in
  padded-read (k, rest, z, h, l) = ap (step_of (length s) at) (forms.padded-read more l z h).2

-- a refusal by a rule, with nothing beside its number and place
abbrev pub ByRule : ((number place : ℕ) → Type 0) → Refusal → Type 0
ByRule rule r = rule r.number r.place × (r ≡ refusal r.number r.place)

pub by-rule : (rule : (number place : ℕ) → Type 0) {k place : ℕ} {r : Refusal} → rule k place → ◌≡◌ {A = Result ⊤ Refusal} (Err (refusal k place)) (Err r) → ByRule rule r
by-rule rule {k} {place} {r} f e = let d : refusal k place ≡ r = cc in subst (ByRule rule) d (f, refl)

module _ (s : List ℕ) where
  -- along fine numbers, reading is the reading of what is left
  reached : {at : ℕ} {next : Next} → Expects s at next → reading_of s ≡ onward s at next
  unfolding reading_of onward from_id from_period from_count
  reached begin = refl
  reached (on {place = at} {v = v} {n = n} {due = d} e w l h) =
      reached e ∙ onward-step s at d ∙ then-read _ _ _ _ _ (ranged-in record_more _ _ _ s at v (at + n) (whole-read record_more s at w) l h)

  -- so what is refused by a rule is refused by that number at that place, and what spells a table is read as it
  stops : {at : ℕ} {d : Due} {r : Refusal} → Expects s at (number d) → ranged (range d).broken (range d).low (range d).high s at ≡ Err r → reading_of s ≡ no_table r
  stops {at} {d} e q = reached e ∙ onward-step s at d ∙ then-refused _ _ _ _ q

  pub rule-refused : {k place : ℕ} → Refuses s k place → reading_of s ≡ no_table (refusal k place)
  unfolding onward
  rule-refused (ends {place = at} e f) = stops e (ranged-refused record_more _ _ _ s at _ (ends_read record_more s at f))
  rule-refused (long {place = at} e f) = stops e (ranged-refused record_more _ _ _ s at _ (long-read record_more s at f))
  rule-refused (padded {place = at} e f) = stops e (ranged-refused record_more _ _ _ s at _ (padded-read record_more s at f))
  rule-refused (outside {place = at} e w o) = stops e (ranged-out record_more _ _ _ s at _ _ (whole-read record_more s at w) o)
  rule-refused (follow {place = at} {t = t} e h) = reached e ∙ some-follow t s at h
  rule-refused (nothing_runs {t = t} e z) = reached e ∙ none-run t s (length s) (le_refl (length s)) (zero-all t.execution t.count z)

  pub spelt-read : {t : TaskTable} → Spelt s t → reading_of s ≡ table_read t
  unfolding onward
  spelt-read {t} (e, runs) = reached e ∙ some-run t s (length s) (le_refl (length s)) (runs-some t.execution t.count runs.0 runs.1 runs.2)

  -- a place that is reached is inside the input
  pub reached-inside : {at : ℕ} {next : Next} → Expects s at next → at ≤ length s
  reached-inside begin = omega arith
  reached-inside (on {place = at} e w l h) = omega (arith, reached-inside e, forms.form-within w.0, length-drop at s)

  -- what an input comes to
  pub data Comes : Type 0 where
    refuses : {k place : ℕ} → Refuses s k place → Comes
    spells : {t : TaskTable} → Spelt s t → Comes

  -- what is expected at a place is there, and then `again` goes on after it; or this is the end
  comes-at : (at : ℕ) (next : Next) → Expects s at next → ((later : ℕ) (next : Next) → at < later → Expects s later next → Comes) → Comes
  comes-at at (nothing t) e again = ⊎_elim
      (λ (h : at < length s). refuses (follow e h))
      (λ (h : length s ≤ at). let q : at ≡ length s = omega (arith, reached-inside e) in by (rw q at e) (all_zero t.execution t.count) refl)
      (lt-or-ge at (length s))
    where
      by : Expects s (length s) (nothing t) → (b : Bool) → all_zero t.execution t.count ≡ b → Comes
      by e true z = refuses (nothing_runs e (all-zero t.execution t.count z))
      by e false z = spells (e, some_runs t.execution t.count z)
  comes-at at (number d) e again = by (forms.found record_more (drop at s))
    where
      by : forms.Found record_more (drop at s) → Comes
      by (forms.Found.ends f) = refuses (ends e f)
      by (forms.Found.long f) = refuses (long e f)
      by (forms.Found.padded f) = refuses (padded e f)
      by (forms.Found.whole v n w) = ⊎_elim
          (λ (l : v < (range d).low). refuses (outside e w (inl l)))
          (λ (l : (range d).low ≤ v). ⊎_elim
          (λ (h : (range d).high < v). refuses (outside e w (inr h)))
          (λ (h : v ≤ (range d).high). again (at + n) (after d v) (omega (arith, forms.form-some w.0)) (on e w l h))
          (lt-or-ge (range d).high v))
          (lt-or-ge v (range d).low)

  -- from a place on, with at most so many bytes left
  comes-from : (left at : ℕ) (next : Next) → length s ≤ at + left → Expects s at next → Comes
  comes-from zero at next b e = comes-at at next e λ later next l f. absurd (omega (arith, reached-inside f))
  comes-from (suc left) at next b e = comes-at at next e λ later next l f. comes-from left later next (omega arith) f

  pub comes : Comes
  comes = comes-from (length s) 0 (number edition) (omega arith) begin

  -- and so a refusal is by its rule, and a table that is read is the one that is spelt
  pub refused-rule : (r : Refusal) → (reading_of s).outcome ≡ Err r → ByRule (Refuses s) r
  refused-rule r q = by comes
    where
      by : Comes → ByRule (Refuses s) r
      by (refuses f) = by-rule (Refuses s) f (ap (λ (x : Reading). x.outcome) (sym (rule-refused f)) ∙ q)
      by (spells f) = clash (let e = ap (λ (x : Reading). x.outcome) (sym (spelt-read f)) ∙ q in cc)

  pub read-spelt : (t : TaskTable) → reading_of s ≡ table_read t → Spelt s t
  read-spelt t q = by comes
    where
      by : Comes → Spelt s t
      by (refuses f) = clash (let e = ap (λ (x : Reading). x.outcome) (sym (rule-refused f) ∙ q) in cc)
      by (spells {t = u} f) = let e : u ≡ t = ap (λ (x : Reading). x.table) (sym (spelt-read f) ∙ q) in rw e at f

-- a refusal of the reader: one of its own numbers, at a byte of the input or at its end
pub record Told (size : ℕ) (r : Refusal) : Type 0 where
  pub own : is_readers r.number ≡ true
  pub place : r.place ≤ size

own_range : (d : Due) → is_readers (range d).broken ≡ true
unfolding is_in
own_range edition = refl
own_range (id x) = refl
own_range (period x d) = refl
own_range (count x d p) = refl
own_range (execution t i) = refl
own_range (parent_count t i e) = refl
own_range (parent t i e left low set) = refl

rule_told : {s : List ℕ} {k place : ℕ} → Refuses s k place → Told (length s) (refusal k place)
unfolding is_in
rule_told (ends e f) = record { own = refl; place = le_refl _ }
rule_told (long e f) = record { own = refl; place = reached-inside _ e }
rule_told (padded e f) = record { own = refl; place = reached-inside _ e }
rule_told (outside {due = d} e w o) = record { own = own_range d; place = reached-inside _ e }
rule_told (follow e h) = record { own = refl; place = reached-inside _ e }
rule_told (nothing_runs e z) = record { own = refl; place = zero-le }

pub refused-told : (s : List ℕ) (r : Refusal) → (reading_of s).outcome ≡ Err r → Told (length s) r
refused-told s r q = let w = refused-rule s r q in rw w.1 (rule_told w.0)

-- Mending answers by its rules: a draft is refused just by the rules of the given record, its table passes the writer's ranges, and what the writer tries then are the
-- two rules that are left. What it writes is a record that the reader accepts, and such a record has nothing to mend.
use mathlib.Core.Path.{◌≡◌, refl, sym, ap, subst, ◌∙◌}
use mathlib.Core.Logic.{inl, inr}
use mathlib.Core.Bool.{false}
use mathlib.Core.List.{List}
use Prim.Native.Nat.{ℕ, ◌≤◌}
use native.Mathlib.Nat.{le_refl}
use native.Mathlib.Omega.{arith}
use lib.ListN.{length, drop}
use lib.Seq.{take-append_seam}
use borrow.Author.Tests.{eqb-false}
use Rattle.std.specs.Prelude.{Ok, Err}
use Rattle.plain.proofs.Picks.{true-false}
use Rattle.refusals.specs.declared.Refusal.{Refusal}
use Rattle.refusals.specs.Refusal.{refusal}
use Rattle.refusals.specs.Numbers.{wrong_length, none_runs}
use Rattle.tables.specs.declared.TaskTable.{TaskTable}
use Rattle.tables.specs.Runs.{AllZero, all_zero}
use Rattle.tables.proofs.Runs.{zero-all, all-zero, some_runs}
use Rattle.records.specs.Reading.{reading_of}
use Rattle.records.proofs.Answers.{filling-all}
use Rattle.writers.specs.Record.{record_of, Spells}
use Rattle.writers.specs.Writing.{record_put}
use Rattle.writers.proofs.Trip.{spells}
use Rattle.writers.proofs.Longest.{record-length}
use Rattle.menders.specs.declared.Draft.{Draft}
use Rattle.menders.specs.Draft.{no_counts, draft_of}
use Rattle.menders.specs.Given.{Due, range, Refuses}
use Rattle.menders.specs.Given.Due.{edition, id, period, count, execution, parent_count, parent}
use Rattle.menders.specs.Given.Refuses.{ends, long, outside, follow}
use Rattle.menders.specs.Mending.{Mended, mend_call}
use Rattle.listings.proofs.Lists.{member-listed}
use Rattle.menders.proofs.Given.{rule-refused, refused-rule, reached-inside}
use Rattle.menders.proofs.OneWay.{one_way}
use Rattle.menders.proofs.Drawn.{given-read, was-drawn, drawn-filling}
use Rattle.menders.proofs.Calls.{Coming, coming}
use Rattle.menders.proofs.Calls.Coming.{refused, nothing_runs, short, fits}
use Rattle.menders.proofs.Trip.{strict-mended, mended-read}
use Rattle.plans.proofs.Tests.{not-both}
use Rattle.claims.specs.Rule.{Decides, IsAccepted, IsRefused}
use Rattle.claims.specs.Write.{write_value}
use Rattle.claims.specs.Mend.{given_rule, mend_rules, front, unchanged, Counted, OfMending}
use Rattle.claims.proofs.Rule.{Single, single, single-at, single-by, gives, not-given}
use Rattle.claims.proofs.Promise.{promised, narrowed}

-- the given record's rules give one refusal
outcome-is : (given : List ℕ) {k place : ℕ} → Refuses given k place → (draft_of given).outcome ≡ Err (refusal k place)
outcome-is given f = ap (λ (x : Draft). x.outcome) (rule-refused given f)

given-single : (given : List ℕ) → Single (given_rule given)
given-single given = single-by (Refuses given) (draft_of given).outcome (λ k place f. outcome-is given f)

-- its numbers are those of the reader's first nine, at a byte of the record or at its end
range-number : (d : Due) → (3 ≤ (range d).broken) × ((range d).broken ≤ 8)
range-number edition = (omega arith, omega arith)
range-number (id x) = (omega arith, omega arith)
range-number (period x d) = (omega arith, omega arith)
range-number (count x d p) = (omega arith, omega arith)
range-number (execution t i lists) = (omega arith, omega arith)
range-number (parent_count t i lists e) = (omega arith, omega arith)
range-number (parent t i lists e left given) = (omega arith, omega arith)

own : (given : List ℕ) (k place : ℕ) → Refuses given k place → (1 ≤ k) × (k ≤ 9) × (place ≤ length given)
own given k place (ends m f) = (omega arith, omega arith, le_refl _)
own given k place (long m f) = (omega arith, omega arith, reached-inside given m)
own given k place (outside {due = d} m w o) = (omega (arith, range-number d), omega (arith, range-number d), reached-inside given m)
own given k place (follow m h) = (omega arith, omega arith, reached-inside given m)

module _ (given bytes : List ℕ) where
  table : TaskTable
  table = (draft_of given).table

  -- its rules decide its answer
  decides : Decides (mend_rules given bytes table) (write_value table) (mend_call given bytes).after.answer
  unfolding table
  decides = go (coming given bytes)
    where
      no-rule : (draft_of given).outcome ≡ Ok tt → (r : Refusal) → given_rule given r → ⊥
      no-rule e r (k, q, f, g) = not-both (outcome-is given f) e

      runs : all_zero (draft_of given).table.execution (draft_of given).table.count ≡ false → AllZero (draft_of given).table → ⊥
      runs f z = true-false (zero-all (draft_of given).table.execution (draft_of given).table.count z) f

      go : {m : Mended} → Coming given bytes m → Decides (mend_rules given bytes (draft_of given).table) (write_value (draft_of given).table) m.after.answer
      go (refused r e) = let w = refused-rule given r e in inl (r, (r.number, r.place, w.0, w.1), refl)
      go (nothing_runs e f) = inr (no-rule e, inl (gives 21 (all-zero (draft_of given).table.execution (draft_of given).table.count f) refl))
      go (short e f h) = inr (no-rule e, inr (not-given (runs f), inl (refusal 19 (length bytes), (h, refl), refl)))
      go (fits e f h) = inr (no-rule e, inr (not-given (runs f), inr ((λ r (l, q). absurd (omega (arith, l, h))), (_, refl, refl))))

  -- an accepted call is that of a draft whose table runs and has room
  record Fits (m : Mended) : Type 0 where
    pub drawn : (draft_of given).outcome ≡ Ok tt
    pub runs : all_zero table.execution table.count ≡ false
    pub room : length (record_of table) ≤ length bytes
    pub is : m ≡ record { after = record_put bytes table; counts = (draft_of given).counts }

  fitted : IsAccepted (mend_call given bytes).after.answer → Fits (mend_call given bytes)
  unfolding table
  fitted = go (coming given bytes)
    where
      go : {m : Mended} → Coming given bytes m → IsAccepted m.after.answer → Fits m
      go (refused r e) z = absurd (omega (arith, (own given r.number r.place (refused-rule given r e).0).0))
      go (nothing_runs e f) z = absurd (eqb-false none_runs 0 refl z)
      go (short e f h) z = absurd (eqb-false wrong_length 0 refl z)
      go (fits e f h) z = record { drawn = e; runs = f; room = h; is = refl }

  -- a refusal leaves the bytes, and no counts
  untouched : IsRefused (mend_call given bytes).after.answer → ((mend_call given bytes).after.lent ≡ bytes) × ((mend_call given bytes).counts ≡ no_counts)
  untouched = go (coming given bytes)
    where
      go : {m : Mended} → Coming given bytes m → IsRefused m.after.answer → (m.after.lent ≡ bytes) × (m.counts ≡ no_counts)
      go (refused r e) z = (refl, refl)
      go (nothing_runs e f) z = (refl, refl)
      go (short e f h) z = (refl, refl)
      go (fits e f h) z = absurd (z refl)

  -- what an accepted call wrote spells the table
  module _ (z : IsAccepted (mend_call given bytes).after.answer) where
    wrote : front (mend_call given bytes) ≡ record_of table
    wrote = ap front (fitted z).is ∙ take-append_seam (record_of table) (drop (length (record_of table)) bytes)

    spelt : Spells (record_of table) table
    unfolding table
    spelt = let f = drawn-filling given (fitted z).drawn in
        (refl, filling-all table (some_runs table.execution table.count (fitted z).runs) f, (f.executions.size, f.sets.size))

    counted : Counted given table (mend_call given bytes).counts
    unfolding table
    counted = let d = was-drawn given (fitted z).drawn in record {
      padded = d.padded;
      lists = d.lists;
      gives = d.gives;
      is = ap (λ (m : Mended). m.counts) (fitted z).is ∙ ap (λ (x : Draft). x.counts) d.is;
      sets = (given-read d.gives).sets;
    }

-- the promises
pub of-mending : OfMending
unfolding table
of-mending = record {
  call = λ given bytes. let t = (draft_of given).table in
      narrowed (λ a (counts, e). ap (λ (m : Mended). m.after) e)
      (promised (mend_call given bytes).after (mend_rules given bytes t) (write_value t) (given-single given, (single _ _, (single-at _ _ _, tt))) (λ v w e f. e ∙ sym f)
      (decides given bytes) (λ z. (untouched given bytes z).0) (λ z. ap (λ (m : Mended). m.after.lent) (fitted given bytes z).is));
  own = own;
  one-mending = λ given bytes m m' e f. e ∙ sym f;
  counted = λ given bytes m e z. rw e (counted given bytes (rw e at z));
  uncounted = λ given bytes m e z. rw e (untouched given bytes (rw e at z)).1;
  one_way = λ given t u p q ls ms. one_way given;
  listed = member-listed;
  strict = λ s bytes t m b e h a. a ∙ strict-mended s bytes t e (spells s t b e) h;
  back = λ given bytes m e z. let y = rw e at z in
      ap (λ (m : Mended). reading_of (front m)) e ∙ ap reading_of (wrote given bytes y) ∙ mended-read given (fitted given bytes y).drawn (fitted given bytes y).runs;
  twice = λ given bytes again m m' e z h f. let y = rw e at z in let same = ap front e ∙ wrote given bytes y in
      f ∙ subst (λ (s : List ℕ). length s ≤ length again → mend_call s again ≡ unchanged s again) (sym same)
      (strict-mended (record_of (draft_of given).table) again (draft_of given).table (mended-read given (fitted given bytes y).drawn (fitted given bytes y).runs) (spelt given bytes y)) h;
  longest = λ given bytes m e z. let y = rw e at z in
      rw (ap (λ (x : Mended). x.after.answer.value) (e ∙ (fitted given bytes y).is)) (record-length (draft_of given).table (spelt given bytes y).1);
}

-- The call case by case: where the draft is refused so is the call; else it is what the writer does with the draft's table, counted where that is no refusal.
use Prim.Native.Nat.{ℕ, ◌≤◌, ◌<◌, zero-le}
use mathlib.Core.Path.{◌≡◌, refl, sym, ap, subst, ◌∙◌}
use mathlib.Core.Bool.{Bool, true, false}
use mathlib.Core.List.{List}
use lib.ListN.{length, take}
use lib.Dec.{eqb, ltb}
use borrow.Author.Tests.{ltb-true, ltb-false}
use Rattle.std.specs.Prelude.{Result, Ok, Err, ⊤}
use Rattle.plain.specs.Pick.{pick}
use Rattle.refusals.specs.declared.Refusal.{Refusal}
use Rattle.refusals.specs.Numbers.{wrong_length, none_runs}
use Rattle.refusals.specs.Refusal.{refusal}
use Rattle.refusals.specs.Answer as answer
use Rattle.refusals.specs.After.{After}
use Rattle.tables.specs.declared.TaskTable.{TaskTable}
use Rattle.tables.specs.Runs.{all_zero}
use Rattle.records.proofs.Answers.{Filling}
use Rattle.writers.specs.Record.{numbers_of, record_of}
use Rattle.writers.specs.Ranges.{ranges}
use Rattle.writers.specs.Writing.{table_of, before_writing, record_put, writing, write_call}
use Rattle.writers.proofs.Back.{table-ranges}
use Rattle.writers.proofs.Trip.{own-lists, own-call}
use Rattle.menders.specs.declared.Counts.{Counts}
use Rattle.menders.specs.declared.Draft.{Draft}
use Rattle.menders.specs.Draft.{no_counts, draft_of}
use Rattle.menders.specs.Mending.{Mended, unmended, counted, mend_call}
use Rattle.menders.proofs.Drawn.{drawn-filling}

-- beside a refusal no counts, beside an acceptance those of the draft
pub counted_none : (counts : Counts) (after : After (List ℕ)) → eqb after.answer.refusal 0 ≡ false → counted counts after ≡ record { after = after; counts = no_counts }
counted_none counts after e = ap (λ (b : Bool). record { after = after; counts = pick b counts no_counts }) e

pub counted-all : (counts : Counts) (after : After (List ℕ)) → eqb after.answer.refusal 0 ≡ true → counted counts after ≡ record { after = after; counts = counts }
counted-all counts after e = ap (λ (b : Bool). record { after = after; counts = pick b counts no_counts }) e

-- what the writer refuses of a table in range has a number
not_zero : (t : TaskTable) (b : List ℕ) (r : Refusal) → ranges (numbers_of t) ≡ Ok tt → Err r ≡ before_writing t b → eqb r.number 0 ≡ false
unfolding before_writing
not_zero t b r e q = by (all_zero t.execution t.count) (ltb (length b) (length (record_of t))) refl refl
  where
    by : (z s : Bool) → all_zero t.execution t.count ≡ z → ltb (length b) (length (record_of t)) ≡ s → eqb r.number 0 ≡ false
    by true s f g = let x = rw (e, f) at q in let same : r ≡ refusal none_runs 0 = cc in rw same
    by false true f g = let x = rw (e, f, g) at q in let same : r ≡ refusal wrong_length (length b) = cc in rw same
    by false false f g = let x = rw (e, f, g) at q in cc

module _ (given bytes : List ℕ) where
  pub call-refused : (r : Refusal) → (draft_of given).outcome ≡ Err r → mend_call given bytes ≡ unmended bytes r
  unfolding mend_call
  call-refused r e = rw e

  pub call-written : (draft_of given).outcome ≡ Ok tt → mend_call given bytes ≡ counted (draft_of given).counts (writing (draft_of given).table bytes)
  unfolding mend_call
  call-written e = rw e

  -- as the code writes it
  module _ (draft : Draft) (e : draft ≡ draft_of given) (ok : draft.outcome ≡ Ok tt) where
    pub filling : Filling draft.table.count draft.table
    filling = subst (λ (d : Draft). Filling d.table.count d.table) (sym e) (drawn-filling given (ap (λ (d : Draft). d.outcome) (sym e) ∙ ok))

    pub call-put : (after : After (List ℕ)) →
        (let t = draft.table in after ≡ write_call (take t.count t.execution) (take t.count t.parents) bytes t.edition t.id t.period) →
        mend_call given bytes ≡ counted draft.counts after
    call-put after w =
        call-written (ap (λ (d : Draft). d.outcome) (sym e) ∙ ok)
        ∙ ap (λ (d : Draft). counted d.counts (writing d.table bytes)) (sym e)
        ∙ ap (counted draft.counts) (sym (w ∙ own-call draft.table filling bytes))

    pub put-refused : (r : Refusal) (lent : List ℕ) → (let t = draft.table in
        Err r ≡ before_writing (table_of (take t.count t.execution) (take t.count t.parents) t.edition t.id t.period) bytes →
        record { answer = answer.refused r; lent = lent } ≡ write_call (take t.count t.execution) (take t.count t.parents) bytes t.edition t.id t.period →
        ◌≡◌ {A = Mended} (record { after = record { answer = answer.refused r; lent = lent }; counts = no_counts }) (mend_call given bytes))
    put-refused r lent q w = let t = draft.table in
        sym (call-put _ w ∙ counted_none _ _ (not_zero t bytes r (table-ranges t filling) (q ∙ ap (λ (u : TaskTable). before_writing u bytes) (own-lists t filling))))

  -- so the call comes to one of these
  pub data Coming : Mended → Type 0 where
    refused : (r : Refusal) → (draft_of given).outcome ≡ Err r → Coming (unmended bytes r)
    nothing_runs : (draft_of given).outcome ≡ Ok tt → all_zero (draft_of given).table.execution (draft_of given).table.count ≡ true → Coming (unmended bytes (refusal none_runs 0))
    short : (draft_of given).outcome ≡ Ok tt → all_zero (draft_of given).table.execution (draft_of given).table.count ≡ false →
        length bytes < length (record_of (draft_of given).table) → Coming (unmended bytes (refusal wrong_length (length bytes)))
    fits : (draft_of given).outcome ≡ Ok tt → all_zero (draft_of given).table.execution (draft_of given).table.count ≡ false →
        length (record_of (draft_of given).table) ≤ length bytes → Coming (record { after = record_put bytes (draft_of given).table; counts = (draft_of given).counts })

  pub coming : Coming (mend_call given bytes)
  unfolding writing before_writing
  coming = start (draft_of given).outcome refl
    where
      by : (e : (draft_of given).outcome ≡ Ok tt) (z s : Bool) → all_zero (draft_of given).table.execution (draft_of given).table.count ≡ z →
          ltb (length bytes) (length (record_of (draft_of given).table)) ≡ s → Coming (counted (draft_of given).counts (writing (draft_of given).table bytes))
      by e true s f g = rw (table-ranges (draft_of given).table (drawn-filling given e), f) (nothing_runs e f)
      by e false true f g = rw (table-ranges (draft_of given).table (drawn-filling given e), f, g) (short e f (ltb-true _ _ g))
      by e false false f g = rw (table-ranges (draft_of given).table (drawn-filling given e), f, g) (fits e f (ltb-false _ _ g))

      start : (o : Result ⊤ Refusal) → (draft_of given).outcome ≡ o → Coming (mend_call given bytes)
      start (Err r) e = subst Coming (sym (call-refused r e)) (refused r e)
      start (Ok done) e = subst Coming (sym (call-written e)) (by e _ _ refl refl)

  -- what is written is inside
  value-inside : (mend_call given bytes).after.answer.value ≤ length bytes
  value-inside = by coming
    where
      by : {m : Mended} → Coming m → m.after.answer.value ≤ length bytes
      by (refused r e) = zero-le
      by (nothing_runs e f) = zero-le
      by (short e f h) = zero-le
      by (fits e f h) = h

  pub call-inside : (m : Mended) → m ≡ mend_call given bytes → m.after.answer.value ≤ length bytes
  call-inside m e = subst (λ (m : Mended). m.after.answer.value ≤ length bytes) (sym e) value-inside

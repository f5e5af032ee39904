-- Writing answers by its rules: each test is the rule's own, and the ranges refuse just the first number that is outside. What is written and what is read are each
-- other's.
use mathlib.Core.Path.{◌≡◌, refl, sym, ap, ◌∙◌}
use mathlib.Core.Logic.{inl, inr}
use mathlib.Core.Bool.{false}
use mathlib.Core.List.{List}
use Prim.Native.Nat.{ℕ}
use native.Mathlib.Omega.{arith}
use lib.ListN.{length, take, drop}
use lib.Seq.{take-append_seam}
use borrow.Author.Tests.{eqb-false}
use Rattle.std.specs.Prelude.{Ok, Err}
use Rattle.plain.proofs.Picks.{true-false}
use Rattle.refusals.specs.declared.Refusal.{Refusal}
use Rattle.refusals.specs.Refusal.{refusal}
use Rattle.refusals.specs.Numbers.{wrong_length, none_runs}
use Rattle.refusals.specs.Answer.{accepted}
use Rattle.refusals.specs.After.{After}
use Rattle.tables.specs.declared.TaskTable.{TaskTable}
use Rattle.tables.specs.Runs.{AllZero, all_zero}
use Rattle.tables.proofs.Runs.{zero-all, all-zero}
use Rattle.numbers.proofs.Shortest.{shortest-whole, form-shortest}
use Rattle.numbers.proofs.Forms.{whole-read, read_whole}
use Rattle.records.specs.declared.Reading.{Reading}
use Rattle.records.specs.Reading.{reading_of}
use Rattle.records.proofs.Expected.{rule-refused}
use Rattle.writers.specs.Record.{numbers_of, record_of}
use Rattle.writers.specs.Ranges.{ranges}
use Rattle.writers.specs.Stands.{Outside}
use Rattle.writers.specs.Stands.Outside.{outside}
use Rattle.writers.specs.Writing.{filled, table_of, record_put, write_call}
use Rattle.writers.proofs.Stands.{outside-refused, refused-outside, outside-read}
use Rattle.writers.proofs.Calls.{Passes, Coming, coming}
use Rattle.writers.proofs.Calls.Coming.{unequal, ranged, nothing_runs, short, fits}
use Rattle.writers.proofs.Trip.{spells, spelt, passed-spells, write_again}
use Rattle.writers.proofs.Longest.{record-length}
use Rattle.plans.proofs.Tests.{not-both}
use Rattle.claims.specs.Rule.{Decides, IsAccepted, IsRefused}
use Rattle.claims.specs.Write.{range_rule, write_rules, write_value, with_record, OfWriting}
use Rattle.claims.proofs.Rule.{Single, single, single-at, single-by, gives, not-given}
use Rattle.claims.proofs.Promise.{promised}
use Rattle.claims.proofs.Record.{range-number}

-- the ranges give one refusal
range-single : (t : TaskTable) → Single (range_rule t)
range-single t = single-by (Outside (numbers_of t)) (ranges (numbers_of t)) (λ k place f. outside-refused _ f)

-- what the ranges refuse is no acceptance
range-some : (t : TaskTable) (r : Refusal) → range_rule t r → r.number ≡ 0 → ⊥
range-some t r (k, p, outside {due = due} s o, e) z = let n = ap (λ (x : Refusal). x.number) e in omega (arith, range-number due)

module _ (X P b : List ℕ) (x d p : ℕ) where
  -- its rules decide its answer
  decides : Decides (write_rules X P b (table_of X P x d p)) (write_value (table_of X P x d p)) (write_call X P b x d p).answer
  decides = go (coming X P b x d p)
    where
      no-range : ranges (numbers_of (table_of X P x d p)) ≡ Ok tt → (r : Refusal) → range_rule (table_of X P x d p) r → ⊥
      no-range e r (k, q, f, g) = not-both (outside-refused _ f) e

      runs : all_zero (filled X) (length X) ≡ false → AllZero (table_of X P x d p) → ⊥
      runs f z = true-false (zero-all (filled X) (length X) z) f

      go : {a : After (List ℕ)} → Coming X P b x d p a → Decides (write_rules X P b (table_of X P x d p)) (write_value (table_of X P x d p)) a.answer
      go (unequal n) = inl (gives 19 n refl)
      go (ranged r same e) = inr (not-given (λ n. n same), inl (r, refused-outside _ r e, refl))
      go (nothing_runs same e f) = inr (not-given (λ n. n same), inr (no-range e, inl (gives 21 (all-zero (filled X) (length X) f) refl)))
      go (short same e f h) = inr (not-given (λ n. n same), inr (no-range e, inr (not-given (runs f), inl (refusal 19 (length b), (h, refl), refl))))
      go (fits same pass) =
          inr (not-given (λ n. n same), inr (no-range pass.in-range, inr (not-given (runs pass.runs), inr ((λ r (h, q). absurd (omega (arith, h, pass.room))), (_, refl, refl)))))

  -- an accepted call is that of a table that passes
  pub record Wrote (a : After (List ℕ)) : Type 0 where
    pub same : length X ≡ length P
    pub pass : Passes (table_of X P x d p) b
    pub is : a ≡ record_put b (table_of X P x d p)

  wrote : IsAccepted (write_call X P b x d p).answer → Wrote (write_call X P b x d p)
  wrote = go (coming X P b x d p)
    where
      go : {a : After (List ℕ)} → Coming X P b x d p a → IsAccepted a.answer → Wrote a
      go (unequal n) z = absurd (eqb-false wrong_length 0 refl z)
      go (ranged r same e) z = absurd (range-some _ r (refused-outside _ r e) z)
      go (nothing_runs same e f) z = absurd (eqb-false none_runs 0 refl z)
      go (short same e f h) z = absurd (eqb-false wrong_length 0 refl z)
      go (fits same pass) z = record { same = same; pass = pass; is = refl }

  unwritten-kept : IsRefused (write_call X P b x d p).answer → (write_call X P b x d p).lent ≡ b
  unwritten-kept = go (coming X P b x d p)
    where
      go : {a : After (List ℕ)} → Coming X P b x d p a → IsRefused a.answer → a.lent ≡ b
      go (unequal n) z = refl
      go (ranged r same e) z = refl
      go (nothing_runs same e f) z = refl
      go (short same e f h) z = refl
      go (fits same pass) z = absurd (z refl)

-- the promises
pub of-writing : OfWriting
of-writing = record {
  call = λ X P b x d p.
      let t = table_of X P x d p in
      promised (write_call X P b x d p) (write_rules X P b t) (write_value t) (single _ _, (range-single t, (single _ _, (single-at _ _ _, tt)))) (λ v w e f. e ∙ sym f)
      (decides X P b x d p) (unwritten-kept X P b x d p) (λ z. ap (λ (a : After (List ℕ)). a.lent) (wrote X P b x d p z).is);
  back = λ X P b x d p a words e z.
      let w = wrote X P b x d p (rw e at z) in
      let front = ap (λ (a : After (List ℕ)). take a.answer.value a.lent) (e ∙ w.is) ∙ take-append_seam (record_of (table_of X P x d p)) (drop (length (record_of (table_of X P x d p))) b) in
      ap reading_of front ∙ spelt _ _ (passed-spells X P b x d p w.same words w.pass);
  again = λ s b t a bytes e h w.
      let sp = spells s t bytes e in
      w ∙ write_again s b t sp h ∙ ap (λ (y : List ℕ). record { answer = accepted (length y); lent = with_record y b }) (sym sp.0);
  one-record = λ s r t bytes bytes' e f. (spells s t bytes e).0 ∙ sym (spells r t bytes' f).0;
  longest = λ X P b x d p a words e z.
      let w = wrote X P b x d p (rw e at z) in
      rw (ap (λ (y : After (List ℕ)). y.answer.value) (e ∙ w.is)) (record-length (table_of X P x d p) (passed-spells X P b x d p w.same words w.pass).1);
  as-met = λ t r small (k, q, f, e). ap (λ (y : Reading). y.outcome) (rule-refused (record_of t) (outside-read (numbers_of t) small f)) ∙ ap Err (sym e);
  number-back = λ more v rest h. let w = shortest-whole more v rest h in whole-read more w.0 w.1;
  number-again = λ more v n s bytes e. let w = read_whole more s v n e in (form-shortest more bytes w.0 w.1).1;
}

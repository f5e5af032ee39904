-- The call case by case: its rules are tried in turn, and the record stands at the front of the buffer once they all pass.
use Prim.Native.Nat.{ℕ, ◌+◌, ◌≤◌, ◌<◌}
use mathlib.Core.Path.{◌≡◌, refl, sym, ap, subst, ◌∙◌}
use mathlib.Core.Logic.{◌⊎◌, inl, inr, ⊎_elim}
use mathlib.Core.Bool.{Bool, true, false}
use mathlib.Core.List.{List, ◌++◌}
use lib.ListN.{length, drop}
use lib.Dec.{ltb, eqb}
use lib.Seq.{sets}
use borrow.Author.Tests.{eq-eqb, ne_eqb, eqb-true, eqb-false, le-ltb, ltb-true, ltb-false}
use Rattle.plain.specs.At.{at}
use Rattle.plain.proofs.Sums.{max-same}
use Rattle.refusals.specs.Numbers.{wrong_length, none_runs}
use Rattle.refusals.specs.declared.Refusal.{Refusal}
use Rattle.std.specs.Prelude.{Result, Ok, Err, ⊤}
use Rattle.refusals.specs.Refusal.{refusal}
use Rattle.refusals.specs.After.{After}
use Rattle.refusals.specs.InOrder.{in_order}
use Rattle.refusals.proofs.InOrder.{all-accepted}
use Rattle.tables.specs.declared.TaskTable.{TaskTable}
use Rattle.tables.specs.Runs.{all_zero}
use Rattle.numbers.specs.Number.{record_more}
use Rattle.numbers.proofs.Written.{sets-front, written-length, Wrote}
use Rattle.writers.specs.Record.{numbers_written, numbers_of, record_of}
use Rattle.writers.specs.Ranges.{ranges}
use Rattle.writers.specs.Writing.{filled, table_of, unless, before_writing, unwritten, record_put, writing, write_call}
use Rattle.writers.specs.Inner.Trial.{record_tried}
use Rattle.writers.specs.Inner.Parts.{head_numbers, nodes_to}
use Rattle.writers.proofs.Parts.{at-filled, numbers-parts}
use Rattle.writers.proofs.Table.{trial-ranges, trial-place}

-- a rule that passes is not broken
pub unless-passed : (broken : Bool) (number place : ℕ) → unless broken number place ≡ Ok tt → broken ≡ false
unless-passed true number place e = cc
unless-passed false number place e = refl

-- all rules pass: the ranges, some node runs, and there is room
pub record Passes (t : TaskTable) (b : List ℕ) : Type 0 where
  pub in-range : ranges (numbers_of t) ≡ Ok tt
  pub runs : all_zero t.execution t.count ≡ false
  pub room : length (record_of t) ≤ length b

pub passes : (t : TaskTable) (b : List ℕ) → before_writing t b ≡ Ok tt → Passes t b
unfolding before_writing
passes t b e =
    let zeros = all_zero t.execution t.count in
    let short = ltb (length b) (length (record_of t)) in
    let all = all-accepted (ranges (numbers_of t)) (unless zeros none_runs 0) (unless short wrong_length (length b)) e in
    record { in-range = all.0; runs = unless-passed zeros none_runs 0 all.1; room = ltb-false _ _ (unless-passed short wrong_length (length b) all.2) }

pub rules-pass : (t : TaskTable) (b : List ℕ) → ranges (numbers_of t) ≡ Ok tt → all_zero t.execution t.count ≡ false → length (record_of t) ≤ length b →
    before_writing t b ≡ Ok tt
unfolding before_writing
rules-pass t b e z h = rw (e, z, le-ltb _ _ h)

-- executions with zeros after them
pub all-zero-filled : (X : List ℕ) → all_zero X (length X) ≡ all_zero (filled X) (length X)
unfolding all_zero
all-zero-filled X = ap (λ (m : ℕ). eqb m 0) (max-same (length X) (at X) (at (filled X)) (λ k h. sym (at-filled X k)))

-- a record has the length of its parts
pub parts-length : (X P : List ℕ) (x d p : ℕ) →
    length (record_of (table_of X P x d p)) ≡ length (numbers_written (head_numbers x d p (length X))) + length (numbers_written (nodes_to X P (length X)))
parts-length X P x d p = ap (λ (vs : List ℕ). length (numbers_written vs)) (numbers-parts X P x d p (length X)) ∙ written-length record_more (head_numbers x d p (length X)) (nodes_to X P (length X))

-- a rule refuses; none does
module _ (t : TaskTable) (b : List ℕ) where
  pub writing-refused : (r : Refusal) → before_writing t b ≡ Err r → writing t b ≡ unwritten b r
  unfolding writing
  writing-refused r e = rw e

  pub writing-put : before_writing t b ≡ Ok tt → writing t b ≡ record_put b t
  unfolding writing
  writing-put e = rw e

module _ (X P b : List ℕ) (x d p : ℕ) where
  -- the rules, as the code tries them: the ranges refuse; or they pass, and then the others are tried
  pub range-refused : (r : Refusal) → record_tried X P x d p ≡ Err r → before_writing (table_of X P x d p) b ≡ Err r
  unfolding before_writing
  range-refused r e = rw (← (trial-ranges X P x d p), e)

  pub rules-tried : (size : ℕ) → record_tried X P x d p ≡ Ok size → before_writing (table_of X P x d p) b
      ≡ in_order (Ok tt) (unless (all_zero X (length X)) none_runs 0) (unless (ltb (length b) size) wrong_length (length b))
  unfolding before_writing
  rules-tried size e =
      rw (← (trial-ranges X P x d p), e, ← (trial-place X P x d p size e), ← (all-zero-filled X))

  -- the lists differ in length; a rule refuses; none does
  pub call-unequal : (length X ≡ length P → ⊥) → write_call X P b x d p ≡ unwritten b (refusal wrong_length 0)
  unfolding write_call
  call-unequal n = simp (ne_eqb _ _ n)

  module _ (same : length X ≡ length P) where
    pub call-writing : write_call X P b x d p ≡ writing (table_of X P x d p) b
    unfolding write_call
    call-writing = simp (eq-eqb _ _ same)

    pub call-refused : (r : Refusal) → before_writing (table_of X P x d p) b ≡ Err r → write_call X P b x d p ≡ unwritten b r
    call-refused r e = call-writing ∙ writing-refused _ b r e

    pub call-accepted : before_writing (table_of X P x d p) b ≡ Ok tt → write_call X P b x d p ≡ record_put b (table_of X P x d p)
    call-accepted e = call-writing ∙ writing-put _ b e

  -- so it comes to one of these
  pub data Coming : After (List ℕ) → Type 0 where
    unequal : (length X ≡ length P → ⊥) → Coming (unwritten b (refusal wrong_length 0))
    ranged : (r : Refusal) → length X ≡ length P → ranges (numbers_of (table_of X P x d p)) ≡ Err r → Coming (unwritten b r)
    nothing_runs : length X ≡ length P → ranges (numbers_of (table_of X P x d p)) ≡ Ok tt → all_zero (filled X) (length X) ≡ true → Coming (unwritten b (refusal none_runs 0))
    short : length X ≡ length P → ranges (numbers_of (table_of X P x d p)) ≡ Ok tt → all_zero (filled X) (length X) ≡ false → length b < length (record_of (table_of X P x d p)) →
        Coming (unwritten b (refusal wrong_length (length b)))
    fits : length X ≡ length P → Passes (table_of X P x d p) b → Coming (record_put b (table_of X P x d p))

  pub coming : Coming (write_call X P b x d p)
  unfolding before_writing
  coming = ⊎_elim
      (λ (n : (length X ≡ length P → ⊥)). subst Coming (sym (call-unequal n)) (unequal n))
      (λ (same : length X ≡ length P). by same (ranges (numbers_of (table_of X P x d p))) (all_zero (filled X) (length X)) (ltb (length b) (length (record_of (table_of X P x d p)))) refl refl refl)
      (by-test (eqb (length X) (length P)) refl)
    where
      by-test : (t : Bool) → eqb (length X) (length P) ≡ t → (length X ≡ length P → ⊥) ⊎ (length X ≡ length P)
      by-test true e = inr (eqb-true _ _ e)
      by-test false e = inl (eqb-false _ _ e)

      by : length X ≡ length P → (o : Result ⊤ Refusal) (z s : Bool) → ranges (numbers_of (table_of X P x d p)) ≡ o → all_zero (filled X) (length X) ≡ z → ltb (length b) (length (record_of (table_of X P x d p))) ≡ s →
          Coming (write_call X P b x d p)
      by same (Err r) z s e f g = subst Coming (sym (call-refused same r (rw e))) (ranged r same e)
      by same (Ok done) true s e f g = subst Coming (sym (call-refused same _ (rw (e, f)))) (nothing_runs same e f)
      by same (Ok done) false true e f g = subst Coming (sym (call-refused same _ (rw (e, f, g)))) (short same e f (ltb-true _ _ g))
      by same (Ok done) false false e f g = subst Coming (sym (call-accepted same (rw (e, f, g)))) (fits same (record { in-range = e; runs = f; room = ltb-false _ _ g }))

  -- the record stands at the front
  pub record-front : (c : List ℕ) (next : ℕ) → Wrote record_more b 0 (head_numbers x d p (length X) ++ nodes_to X P (length X)) c next → length (record_of (table_of X P x d p)) ≤ length b →
      c ≡ record_of (table_of X P x d p) ++ drop (length (record_of (table_of X P x d p))) b
  record-front c next w h =
      let t = record_of (table_of X P x d p) in
      w.bytes ∙ ap (λ (vs : List ℕ). sets b 0 (numbers_written vs)) (sym (numbers-parts X P x d p (length X))) ∙ sets-front t b h

-- The first number that is outside its range is the one that the ranges refuse: along numbers in range, trying goes on with those that are left. A reader of the
-- numbers written one after the other meets it at the same byte.
use Prim.Native.Nat.{ℕ, suc, ◌+◌, ◌^◌, ◌≤◌, ◌<◌}
use mathlib.Core.Path.{◌≡◌, refl, sym, ap, ◌∙◌}
use mathlib.Core.Logic.{◌⊎◌, inl, inr, ⊎_elim}
use mathlib.Core.List.{List, [], ◌∷◌, ◌++◌, append_assoc, append-nil}
use native.Mathlib.Omega.{arith}
use lib.ListN.{length, drop}
use lib.Seq.{drop-append_seam, get_or-append_seam}
use Rattle.std.specs.Prelude.{Result, Err, ⊤}
use Rattle.plain.specs.At.{at}
use Rattle.plain.proofs.Lists.{lt-or-ge}
use Rattle.refusals.specs.declared.Refusal.{Refusal}
use Rattle.refusals.specs.Refusal.{refusal}
use Rattle.numbers.specs.Number.{record_more}
use Rattle.numbers.specs.Shortest.{shortest, all_shortest}
use Rattle.numbers.specs.Form.{Whole}
use Rattle.numbers.proofs.Shortest.{shortest-whole}
use Rattle.numbers.proofs.Written.{written-append, written-length}
use Rattle.records.specs.Expected.{range, Next, after, Expects, Refuses}
use Rattle.records.specs.Expected.Due.{edition}
use Rattle.records.specs.Expected.Next.{number, nothing}
use Rattle.records.specs.Expected.Expects.{begin as expected, on as expected-on}
use Rattle.records.specs.Expected.Refuses.{outside as refused-there}
use Rattle.writers.specs.Record.{numbers_written}
use Rattle.writers.specs.Ranges.{ranges_from, ranges}
use Rattle.writers.specs.Stands.{Stands, Outside}
use Rattle.writers.specs.Stands.Stands.{begin, on}
use Rattle.writers.specs.Stands.Outside.{outside}
use Rattle.writers.proofs.Tried.{ranges-out, ranges_in}

module _ (numbers : List ℕ) where
  -- along numbers in range
  stands-ranges : {place : ℕ} {next : Next} {rest : List ℕ} → Stands numbers place next rest → ranges numbers ≡ ranges_from rest next place
  stands-ranges begin = refl
  stands-ranges (on {place} {v} {due} {rest} s l h) = stands-ranges s ∙ ranges_in due v rest place l h

  pub outside-refused : {broken place : ℕ} → Outside numbers broken place → ranges numbers ≡ Err (refusal broken place)
  outside-refused (outside {place} {v} {due} {rest} s o) = stands-ranges s ∙ ranges-out due v rest place o

  -- what is left is in range, or some number of it is not
  from : (rest : List ℕ) (place : ℕ) (next : Next) → Stands numbers place next rest → (r : Refusal) → ranges_from rest next place ≡ Err r →
      (broken : ℕ) × (at : ℕ) × Outside numbers broken at × (r ≡ refusal broken at)
  unfolding ranges_from
  from [] place next s r e = cc
  from (v ∷ rest) place (nothing t) s r e = cc
  from (v ∷ rest) place (number due) s r e = ⊎_elim
      (λ (l : v < (range due).low). out (inl l))
      (λ (l : (range due).low ≤ v). ⊎_elim
      (λ (h : (range due).high < v). out (inr h))
      (λ (h : v ≤ (range due).high). from rest _ (after due v) (on s l h) r (sym (ranges_in due v rest place l h) ∙ e))
      (lt-or-ge (range due).high v))
      (lt-or-ge v (range due).low)
    where
      out : (v < (range due).low) ⊎ ((range due).high < v) → (broken : ℕ) × (at : ℕ) × Outside numbers broken at × (r ≡ refusal broken at)
      out o = ((range due).broken, place, outside s o, told (sym e ∙ ranges-out due v rest place o))
        where
          told : ◌≡◌ {A = Result ⊤ Refusal} (Err r) (Err (refusal (range due).broken place)) → r ≡ refusal (range due).broken place
          told q = cc

  pub refused-outside : (r : Refusal) → ranges numbers ≡ Err r → (broken : ℕ) × (at : ℕ) × Outside numbers broken at × (r ≡ refusal broken at)
  refused-outside r e = from numbers 0 (number edition) begin r e

  -- where each number takes at most four groups, a reader of them all expects each where it stands
  module _ (small : (k : ℕ) → at numbers k < 128 ^ suc record_more) where
    -- the number v, after those of `front`
    number-whole : (front rest : List ℕ) (v : ℕ) → numbers ≡ front ++ v ∷ rest →
        Whole record_more (drop (length (numbers_written front)) (numbers_written numbers)) v (length (shortest record_more v))
    unfolding all_shortest
    number-whole front rest v q =
        let low : v < 128 ^ suc record_more = rw (ap (λ (l : List ℕ). at l (length front)) q ∙ get_or-append_seam front v rest 0) at (small (length front)) in
        let there = ap (drop (length (numbers_written front))) (ap numbers_written q ∙ written-append record_more front (v ∷ rest))
        ∙ drop-append_seam (numbers_written front) (shortest record_more v ++ numbers_written rest) in
        rw there (shortest-whole record_more v (numbers_written rest) low)

    stands-expected : {place : ℕ} {next : Next} {rest : List ℕ} → Stands numbers place next rest →
        (front : List ℕ) × (numbers ≡ front ++ rest) × (place ≡ length (numbers_written front)) × Expects (numbers_written numbers) place next
    unfolding all_shortest
    stands-expected begin = ([], refl, refl, expected)
    stands-expected (on {place} {v} {due} {rest} s l h) =
        let (front, q, p, x) = stands-expected s in
        let behind : place + length (shortest record_more v) ≡ length (numbers_written (front ++ v ∷ [])) = omega (arith, p, written-length record_more front (v ∷ []), ap (length {A = ℕ}) (append-nil (shortest record_more v))) in
        (front ++ v ∷ [], q ∙ sym (append_assoc front (v ∷ []) rest), behind, expected-on x (rw (← p) at (number-whole front rest v q)) l h)

    -- so it refuses the number that is outside its range by that number, at that byte
    pub outside-read : {broken place : ℕ} → Outside numbers broken place → Refuses (numbers_written numbers) broken place
    outside-read (outside {place} {v} {due} {rest} s o) =
        let (front, q, p, x) = stands-expected s in
        refused-there x (rw (← p) at (number-whole front rest v q)) o

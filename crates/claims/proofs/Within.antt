-- A board within another: each of its rows is free, or is some row of the other. Then S, M and r are no greater there: since no task stands twice, its
-- rows can be struck off the other one after the other; and r falls with the longest execution.
use mathlib.Core.Path.{◌≡◌, refl, sym, ap, ◌∙◌}
use mathlib.Core.Logic.{◌⊎◌, inl, inr, ⊎_elim}
use mathlib.Core.List.{List}
use Prim.Native.Nat.{ℕ, zero, suc, ◌≤◌, ◌<◌, zero-le}
use native.Mathlib.Nat.{le_refl, le_trans, mul-le-mul_right}
use native.Mathlib.Decide.{ℕ_discrete}
use native.Mathlib.Omega.{arith}
use lib.Dec.{eqb}
use borrow.Author.Tests.{eq-eqb, ne_eqb}
use Rattle.plain.specs.Pick.{pick}
use Rattle.plain.specs.Sums.{sum_to, max_to}
use Rattle.plain.proofs.Lists.{lt-or-ge}
use Rattle.plain.proofs.Sums.{sum-changed, max_to-le, le-max_to}
use Rattle.tables.specs.declared.TaskTable.{TaskTable}
use Rattle.tables.specs.Limits.{million}
use Rattle.shares.proofs.Densities.{undivided, enough, least}
use Rattle.boards.specs.declared.Row.{Row}
use Rattle.boards.specs.Row.{free_row, rows_max, row_at}
use Rattle.boards.specs.Sound.{Sound}
use Rattle.boards.specs.Find.{place_of}
use Rattle.boards.specs.Change.{answer_to, changed, withdrawn}
use Rattle.boards.specs.Verdict.{sum_of, largest_of, longest_of}
use Rattle.boards.specs.Fractions.{Fraction}
use Rattle.boards.proofs.Keeping.{withdrawn-sound, row_written, others-kept}
use Rattle.overheads.specs.ToEnd.{deadline_in, overhead_of}
use Rattle.overheads.proofs.Overhead.{quotient, overhead-is}
use Rattle.claims.specs.Rule.{IsAccepted}
use Rattle.claims.specs.Calls.{State}
use Rattle.claims.specs.Day.{Among, RowIs}
use Rattle.claims.proofs.Withdraw.{withdraw-accepted}
use Rattle.claims.proofs.Pairing.{figure, Paired}

-- some row of the N is this one
abbrev Has : (N : ℕ) → (ℕ → Row) → Row → Type 0
Has N all r = (j : ℕ) × (j < N) × (all j ≡ r)

-- each of n rows is free or one of N others
abbrev Found : (n N : ℕ) (part all : ℕ → Row) → Type 0
Found n N part all = (k : ℕ) → k < n → (part k ≡ free_row) ⊎ Has N all (part k)

-- no row but a free one is there twice
abbrev Apart : (n : ℕ) → (ℕ → Row) → Type 0
Apart n part = (i k : ℕ) → i < k → k < n → part i ≡ part k → part i ≡ free_row

-- row j struck off
abbrev struck : (ℕ → Row) → ℕ → ℕ → Row
struck all j i = pick (eqb i j) free_row (all i)

struck-here : (all : ℕ → Row) (j : ℕ) → struck all j j ≡ free_row
struck-here all j = rw (eq-eqb j j refl)

struck-other : (all : ℕ → Row) (j i : ℕ) → (i ≡ j → ⊥) → struck all j i ≡ all i
struck-other all j i n = rw (ne_eqb i j n)

-- a row that was found, and is not the last one, is found still where the last one is struck off
still-found : {n N : ℕ} {part all : ℕ → Row} → Apart (suc n) part → Found (suc n) N part all → (w : Has N all (part n)) → Found n N part (struck all w.0)
still-found {n} {N} {part} {all} apart found w k h = ⊎_elim inl
    (λ (v : Has N all (part k)). elim (ℕ_discrete v.0 w.0) [
      | yes e ↦ inl (apart k n h (le_refl (suc n)) (sym v.2 ∙ rw e w.2))
      | no d ↦ inr (v.0, v.1, struck-other all w.0 v.0 d ∙ v.2)
    ])
    (found k (omega arith))

-- so their sum is no greater
sum-found : (f : Row → ℕ) → f free_row ≡ 0 → (N n : ℕ) (part all : ℕ → Row) → Apart n part → Found n N part all → sum_to n (λ k. f (part k)) ≤ sum_to N (λ j. f (all j))
unfolding sum_to
sum-found f z N zero part all apart found = zero-le
sum-found f z N (suc n) part all apart found = ⊎_elim
    (λ (e : part n ≡ free_row).
    let ih = sum-found f z N n part all (λ i k l h. apart i k l (omega arith)) (λ k h. found k (omega arith)) in
    let none = ap f e in
    omega arith)
    (λ (w : Has N all (part n)).
    let ih = sum-found f z N n part (struck all w.0) (λ i k l h. apart i k l (omega arith)) (still-found apart found w) in
    let off = sum-changed N (λ i. f (struck all w.0 i)) (λ i. f (all i)) w.0 w.1 (λ i d. ap f (struck-other all w.0 i d)) in
    let none = ap f (struck-here all w.0) in
    let here = ap f w.2 in
    omega arith)
    (found n (le_refl (suc n)))

-- the sound board `part` is within the sound board `all`
pub record Within (part all : List Row) : Type 0 where
  pub sound : Sound part
  pub sound-all : Sound all
  pub found : Found rows_max rows_max (row_at part) (row_at all)

-- the greatest of smaller values is no greater
max-mono : (n : ℕ) (f g : ℕ → ℕ) → ((k : ℕ) → k < n → f k ≤ g k) → max_to n f ≤ max_to n g
max-mono n f g e = max_to-le n (max_to n g) f (λ k h. le_trans (e k h) (le-max_to n g k h))

-- a quotient grows with its execution
quotient-grows : (x y : ℕ) (d : Fraction) → x ≤ y → quotient x d ≤ quotient y d
quotient-grows x y d l = ⊎_elim
    (λ (some : 0 < d.upper). least x d.lower d.upper (quotient y d) (le_trans (mul-le-mul_right million (mul-le-mul_right d.lower l)) (enough y d.lower d.upper some)))
    (λ (none : d.upper ≤ 0). rw (undivided x d.lower d.upper (omega arith)) zero-le)
    (lt-or-ge 0 d.upper)

module _ {part all : List Row} (w : Within part all) where
  -- a row that is there twice is a free one
  rows_apart : Apart rows_max (row_at part)
  rows_apart i k l h e =
      let no-id = w.sound.once i k l h (ap (λ (r : Row). r.id) e) in
      ⊎_elim (λ (free : row_at part i ≡ free_row). free) (λ t. absurd (let low = t.id-low in omega arith)) (w.sound.each i (omega arith))

  -- S
  pub sum-within : sum_of part ≤ sum_of all
  unfolding sum_of
  sum-within = sum-found (λ r. r.sum) refl rows_max rows_max (row_at part) (row_at all) rows_apart w.found

  -- the greatest of a figure: M, and the longest execution
  greatest-within : (f : Row → ℕ) → f free_row ≡ 0 → max_to rows_max (figure f part) ≤ max_to rows_max (figure f all)
  greatest-within f z = max_to-le rows_max _ (figure f part) (λ k h. ⊎_elim
      (λ (e : row_at part k ≡ free_row). rw (ap f e, z) zero-le)
      (λ (v : Has rows_max (row_at all) (row_at part k)). rw (← (ap f v.2)) (le-max_to rows_max (figure f all) v.0 v.1))
      (w.found k h))

  pub largest-within : largest_of part ≤ largest_of all
  unfolding largest_of
  largest-within = greatest-within (λ r. r.largest) refl

  longest-within : longest_of part ≤ longest_of all
  unfolding longest_of
  longest-within = greatest-within (λ r. r.longest) refl

  -- r, the greatest of the quotients of the longest execution
  pub overhead-within : overhead_of part ≤ overhead_of all
  overhead-within = rw (overhead-is w.sound, overhead-is w.sound-all) (le_trans
      (max-mono rows_max _ _ (λ k h. quotient-grows (longest_of part) (longest_of all) (deadline_in (row_at part k)) longest-within))
      (greatest-within (λ r. quotient (longest_of all) (deadline_in r)) (undivided (longest_of all) 0 0 refl)))

-- a withdrawal leaves a board within the one before it
pub withdrawn-within : (rows : List Row) (id : ℕ) → IsAccepted (answer_to (withdrawn rows id)) → Within (changed rows (withdrawn rows id)) rows
withdrawn-within rows id z =
    let w = withdraw-accepted rows id z in
    record {
      sound = withdrawn-sound rows id w.sound;
      sound-all = w.sound;
      found = λ k h. rw w.is (elim (ℕ_discrete k (place_of id rows)) [
        | yes e ↦ inl (rw e (row_written w.sound (place_of id rows) w.stood free_row))
        | no n ↦ inr (k, h, sym (others-kept rows (place_of id rows) free_row k n))
      ]);
    }

-- where what stands after one day stands after another, the one's board is within the other's
pub day-within : {s u : State} → Paired s → Paired u → ((t : TaskTable) → Among t s.standing → Among t u.standing) → Within s.rows u.rows
day-within {s} {u} p q stands = record {
  sound = p.sound;
  sound-all = q.sound;
  found = λ k h. ⊎_elim inl
      (λ (v : (t : TaskTable) × Among t s.standing × RowIs s.rows t k). let r = q.row v.0 (stands v.0 v.1) in inr (r.0, r.1, r.2 ∙ sym v.2))
      (p.table k h);
}

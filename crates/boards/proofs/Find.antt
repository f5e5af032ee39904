-- The place of an id is the lowest row that has it: by induction on the rows, as the search goes through them.
use mathlib.Core.Path.{◌≡◌, refl}
use mathlib.Core.Logic.{⊎_elim}
use mathlib.Core.Bool.{Bool, true, false, cond}
use mathlib.Core.List.{List, [], ◌∷◌}
use Prim.Native.Nat.{ℕ, zero, suc, ◌≤◌, ◌<◌, zero-le, suc-le-suc}
use native.Mathlib.Nat.{le_of_suc-le-suc, not-suc-le-zero, le_antisymm}
use native.Mathlib.Omega.{arith}
use native.Mathlib.Numerals.{one-add}
use lib.Dec.{eqb, ltb}
use lib.ListN.{length}
use borrow.Author.Tests.{eqb-true, eqb-false}
use Rattle.plain.proofs.Lists.{lt-or-ge}
use Rattle.boards.specs.declared.Row.{Row}
use Rattle.boards.specs.Row.{rows_max, row_at}
use Rattle.boards.specs.Find.{place_of}
use Rattle.boards.specs.Inner.Place.{row_place}
use Rattle.plain.specs.Pick.{pick}
use Rattle.std.proofs.Common.{Some, None}
use Rattle.std.specs.List.{position, position_or_len}
use Rattle.std.proofs.lemmas.List.Recursion.{is_position_or_len}
use Rattle.plain.proofs.Picks.{pick-case}

-- at most as many as there are rows
pub place-le : (id : ℕ) (rows : List Row) → place_of id rows ≤ length rows
unfolding place_of
place-le id [] = zero-le
place-le id (r ∷ rs) = pick-case (λ k. k ≤ suc (length rs)) (eqb r.id id) (λ e. zero-le) (λ e. suc-le-suc (place-le id rs))

-- the row found has the id
pub place-id : (id : ℕ) (rows : List Row) → place_of id rows < length rows → (row_at rows (place_of id rows)).id ≡ id
unfolding place_of
place-id id [] h = absurd (not-suc-le-zero h)
place-id id (r ∷ rs) h =
    pick-case (λ k. k < suc (length rs) → (row_at (r ∷ rs) k).id ≡ id) (eqb r.id id) (λ e l. eqb-true r.id id e) (λ e l. place-id id rs (le_of_suc-le-suc l)) h

-- no lower row has it
pub place-before : (id : ℕ) (rows : List Row) (k : ℕ) → k < place_of id rows → (row_at rows k).id ≡ id → ⊥
unfolding place_of
place-before id [] k h e = not-suc-le-zero h
place-before id (r ∷ rs) zero h e = pick-case (λ p. 0 < p → ⊥) (eqb r.id id) (λ q l. not-suc-le-zero l) (λ q l. eqb-false r.id id q e) h
place-before id (r ∷ rs) (suc k) h e = pick-case (λ p. suc k < p → ⊥) (eqb r.id id) (λ q l. not-suc-le-zero l) (λ q l. place-before id rs k (le_of_suc-le-suc l) e) h

-- a row that has it is no lower
pub place-at-most : (id : ℕ) (rows : List Row) (k : ℕ) → (row_at rows k).id ≡ id → place_of id rows ≤ k
place-at-most id rows k e = ⊎_elim (λ (h : k < place_of id rows). absurd (place-before id rows k h e)) (λ (h : place_of id rows ≤ k). h) (lt-or-ge k (place_of id rows))

-- so the lowest row that has it is the place
pub place_is : (id : ℕ) (rows : List Row) (k : ℕ) → k < length rows → (row_at rows k).id ≡ id → ((i : ℕ) → i < k → (row_at rows i).id ≡ id → ⊥) → place_of id rows ≡ k
place_is id rows k h e before =
    let l = place-at-most id rows k e in
    le_antisymm l (⊎_elim (λ (g : place_of id rows < k). absurd (before (place_of id rows) g (place-id id rows (omega arith)))) (λ (g : k ≤ place_of id rows). g) (lt-or-ge (place_of id rows) k))

-- and where none has it the place is their number
pub none-place : (id : ℕ) (rows : List Row) → ((k : ℕ) → k < length rows → (row_at rows k).id ≡ id → ⊥) → place_of id rows ≡ length rows
none-place id rows f = le_antisymm (place-le id rows) (⊎_elim (λ (h : place_of id rows < length rows). absurd (f (place_of id rows) h (place-id id rows h))) (λ (h : length rows ≤ place_of id rows). h) (lt-or-ge (place_of id rows) (length rows)))

-- which is what a search by position finds
picked : {A : Type 0} (t : Bool) (a b : A) → pick t a b ≡ cond t a b
picked true a b = refl
picked false a b = refl

by-position : (id : ℕ) (rows : List Row) → place_of id rows ≡ position_or_len (λ (r : Row). eqb r.id id) rows
unfolding place_of
by-position id rows = is_position_or_len (place_of id) (λ (r : Row). eqb r.id id) refl (λ r rs. rw one-add (picked (eqb r.id id) 0 (suc (place_of id rs)))) rows

pub position-place : (id : ℕ) (rows : List Row) → length rows ≡ rows_max → position (λ (r : Row). eqb r.id id) rows ≡ row_place (place_of id rows)
position-place id rows e = rw (← (by-position id rows), e) (rw (picked (ltb (place_of id rows) rows_max) (Some (place_of id rows)) None))

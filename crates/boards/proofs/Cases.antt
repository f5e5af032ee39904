-- What each call comes to, case by case: its definition is a chain of tests, and each test says a rule of document 01.
use mathlib.Core.Path.{◌≡◌}
use mathlib.Core.Logic.{◌⊎◌, inl, inr}
use mathlib.Core.Bool.{Bool, true}
use mathlib.Core.List.{List}
use Prim.Native.Nat.{ℕ, ◌≤◌, ◌<◌}
use native.Mathlib.Omega.{arith}
use Rattle.std.specs.Prelude.{Result, Ok, Err, ⊤}
use lib.Dec.{eqb, ltb}
use borrow.Author.Tests.{ltb-true, ltb-false, le-ltb, eqb-true, eqb-false, ne_eqb}
use Rattle.plain.specs.Pick.{one}
use Rattle.refusals.specs.Numbers.{id_stands, board_full, not_standing, bad_cores, unsound_board}
use Rattle.refusals.specs.declared.Refusal.{Refusal}
use Rattle.refusals.specs.Refusal.{refusal}
use Rattle.refusals.specs.Answer.{accepted, refused}
use Rattle.boards.specs.declared.Row.{Row}
use Rattle.boards.specs.declared.Change.{Change}
use Rattle.boards.specs.Row.{free_row, rows_max}
use Rattle.boards.specs.Sound.{Sound, is_sound}
use Rattle.boards.specs.Find.{place_of, free_at}
use Rattle.boards.specs.Verdict.{cores_max}
use Rattle.boards.specs.Change.{placed, withdrawn, before_asking, asked_by}
use Rattle.plain.specs.Tests.{between}
use Rattle.plain.proofs.Picks.{true-false, pick-case}
use Rattle.plain.proofs.Tests.{between-true, true-between}
use Rattle.boards.proofs.Sound.{sound-test, test-sound}

-- a task's row: the id stands already; it goes to the lowest free row; all rows are taken
pub data Placing (rows : List Row) (row : Row) : Result Change Refusal → Type 0 where
  stands : place_of row.id rows < rows_max → Placing rows row (Err (refusal id_stands 0))
  fills : rows_max ≤ place_of row.id rows → free_at rows < rows_max → Placing rows row (Ok (record { at = free_at rows; row = row }))
  full : rows_max ≤ place_of row.id rows → rows_max ≤ free_at rows → Placing rows row (Err (refusal board_full 0))

-- one of the three
pub placing : (rows : List Row) (row : Row) → Placing rows row (placed rows row)
unfolding placed
placing rows row =
    pick-case (Placing rows row) (ltb (place_of row.id rows) rows_max)
    (λ e. stands (ltb-true (place_of row.id rows) rows_max e))
    (λ e. pick-case (Placing rows row) (ltb (free_at rows) rows_max)
    (λ f. fills (ltb-false (place_of row.id rows) rows_max e) (ltb-true (free_at rows) rows_max f))
    (λ f. full (ltb-false (place_of row.id rows) rows_max e) (ltb-false (free_at rows) rows_max f)))

-- a withdrawal: the board isn't sound; the id isn't standing ("0 never stands"); its row becomes free
pub data Withdrawing (rows : List Row) (id : ℕ) : Result Change Refusal → Type 0 where
  unsound : (Sound rows → ⊥) → Withdrawing rows id (Err (refusal unsound_board 0))
  absent : Sound rows → (id ≡ 0) ⊎ (rows_max ≤ place_of id rows) → Withdrawing rows id (Err (refusal not_standing 0))
  frees : Sound rows → (id ≡ 0 → ⊥) → place_of id rows < rows_max → Withdrawing rows id (Ok (record { at = place_of id rows; row = free_row }))

-- one of the three
pub withdrawing : (rows : List Row) (id : ℕ) → Withdrawing rows id (withdrawn rows id)
unfolding withdrawn
withdrawing rows id =
    pick-case (Withdrawing rows id) (is_sound rows)
    (λ e. let s = sound-test rows e in
    pick-case (Withdrawing rows id) (eqb id 0)
    (λ z. absent s (inl (eqb-true id 0 z)))
    (λ z. pick-case (Withdrawing rows id) (ltb (place_of id rows) rows_max)
    (λ f. frees s (eqb-false id 0 z) (ltb-true (place_of id rows) rows_max f))
    (λ f. absent s (inr (ltb-false (place_of id rows) rows_max f)))))
    (λ e. unsound (λ s. true-false (test-sound s) e))

-- what asking tries before a verdict: the board isn't sound; the core count is out of its range; neither
module _ (rows : List Row) (m : ℕ) where
  pub data Before : Result ⊤ Refusal → Type 0 where
    unsound : (Sound rows → ⊥) → Before (Err (refusal unsound_board 0))
    outside : Sound rows → (m ≡ 0) ⊎ (cores_max < m) → Before (Err (refusal bad_cores 0))
    asks : Sound rows → 1 ≤ m → m ≤ cores_max → Before (Ok tt)

  -- one of the three
  pub before : Before (before_asking (is_sound rows) m)
  unfolding before_asking
  before =
      pick-case Before (is_sound rows)
      (λ e. let s = sound-test rows e in
      pick-case Before (eqb m 0)
      (λ z. outside s (inl (eqb-true m 0 z)))
      (λ z. pick-case Before (ltb cores_max m)
      (λ f. outside s (inr (ltb-true cores_max m f)))
      (λ f. asks s (let n = eqb-false m 0 z in omega arith) (ltb-false cores_max m f))))
      (λ e. unsound (λ s. true-false (test-sound s) e))

-- a core count in its range is asked for
pub inside-asks : (m : ℕ) → between 1 m cores_max ≡ true → before_asking true m ≡ Ok tt
unfolding before_asking
inside-asks m e =
    let w = between-true 1 m cores_max e in
    rw (ne_eqb m 0 (λ z. let l = w.0 in omega arith), le-ltb cores_max m w.1)

-- any verdict, by that outcome
module _ (says : List Row → ℕ → Bool) (rows : List Row) (m : ℕ) where
  pub asked-refused : {r : Refusal} → before_asking (is_sound rows) m ≡ Err r → asked_by says rows m ≡ refused r
  unfolding asked_by
  asked-refused e = rw e

  pub asked-told : before_asking (is_sound rows) m ≡ Ok tt → asked_by says rows m ≡ accepted (one (says rows m))
  unfolding asked_by
  asked-told e = rw e

-- where nothing is refused, the board is sound and the core count in its range
pub may-ask : (rows : List Row) (m : ℕ) → before_asking (is_sound rows) m ≡ Ok tt → Sound rows × ((1 ≤ m) × (m ≤ cores_max))
may-ask rows m = by (before rows m)
  where
    by : {o : Result ⊤ Refusal} → Before rows m o → o ≡ Ok tt → Sound rows × ((1 ≤ m) × (m ≤ cores_max))
    by (unsound u) e = absurd (let z : ◌≡◌ {A = ℕ} 0 1 = cc in omega arith)
    by (outside s c) e = absurd (let z : ◌≡◌ {A = ℕ} 0 1 = cc in omega arith)
    by (asks s l h) e = (s, (l, h))

-- and there they are not
pub asks-where : (rows : List Row) (m : ℕ) → is_sound rows ≡ true → (1 ≤ m) × (m ≤ cores_max) → before_asking (is_sound rows) m ≡ Ok tt
asks-where rows m s h = rw s (inside-asks m (true-between 1 m cores_max h.0 h.1))

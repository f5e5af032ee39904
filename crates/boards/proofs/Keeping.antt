-- Boards stay sound: a change writes one row, and that row is free, or stands under an id that no other row has. Everything else is as it was.
use mathlib.Core.Path.{◌≡◌, refl, sym, ◌∙◌}
use mathlib.Core.Logic.{◌⊎◌, inl, inr, ⊎_elim}
use mathlib.Core.List.{List}
use Prim.Native.Nat.{ℕ, ◌≤◌, ◌<◌}
use native.Mathlib.Nat.{eq-or-lt_of_le}
use native.Mathlib.Decide.{ℕ_discrete}
use native.Mathlib.Omega.{arith}
use lib.ListN.{set, length-set}
use Rattle.std.specs.Prelude.{Result}
use lib.Seq.{get_or-set_same, get_or-set_other}
use Rattle.refusals.specs.declared.Refusal.{Refusal}
use Rattle.boards.specs.declared.Row.{Row}
use Rattle.boards.specs.declared.Change.{Change}
use Rattle.boards.specs.Row.{free_row, rows_max, row_at}
use Rattle.boards.specs.Sound.{Standing, Sound}
use Rattle.boards.specs.Find.{place_of, free_at}
use Rattle.boards.specs.Change.{changed, answer_to, placed, withdrawn}
use Rattle.boards.proofs.Find.{place-id, place-before, place-at-most}
use Rattle.boards.proofs.Cases.{Placing, placing, Withdrawing, withdrawing}
use Rattle.boards.proofs.Cases.Placing.{stands, fills, full}
use Rattle.boards.proofs.Cases.Withdrawing.{unsound, absent, frees}

-- "other rows keep their content"
pub others-kept : (rows : List Row) (at : ℕ) (row : Row) (k : ℕ) → (k ≡ at → ⊥) → row_at (set rows at row) k ≡ row_at rows k
others-kept rows at row k n = get_or-set_other rows at k row free_row n

-- and the row written is there
pub row_written : {rows : List Row} → Sound rows → (at : ℕ) → at < rows_max → (row : Row) → row_at (set rows at row) at ≡ row
row_written {rows} s at h row = get_or-set_same rows at row free_row (rw s.sixteen h)

-- a row written over a sound board keeps it sound, where no row has its id yet
write-sound : {rows : List Row} → Sound rows → (at : ℕ) → at < rows_max → (row : Row) → (row ≡ free_row) ⊎ Standing row → ((k : ℕ) → k < rows_max → (row_at rows k).id ≡ row.id → row.id ≡ 0) → Sound (set rows at row)
write-sound {rows} s at h row ok new = record { sixteen = length-set rows at row ∙ s.sixteen; each = each; once = once }
  where
    here : row_at (set rows at row) at ≡ row
    here = row_written s at h row

    there : (k : ℕ) → (k ≡ at → ⊥) → row_at (set rows at row) k ≡ row_at rows k
    there = others-kept rows at row

    each : (k : ℕ) → k < rows_max → (row_at (set rows at row) k ≡ free_row) ⊎ Standing (row_at (set rows at row) k)
    each k l = elim (ℕ_discrete k at) [
      | yes e ↦ rw (e, here) ok
      | no n ↦ rw (there k n) (s.each k l)
    ]

    once : (i j : ℕ) → i < j → j < rows_max → (row_at (set rows at row) i).id ≡ (row_at (set rows at row) j).id → (row_at (set rows at row) i).id ≡ 0
    once i j l m = elim (ℕ_discrete i at) [
      | yes e ↦ rw (e, here, there j (after e)) (λ q. new j m (sym q))
      | no n ↦ elim (ℕ_discrete j at) [
        | yes f ↦ rw (there i n, f, here) (λ q. q ∙ new i (omega arith) q)
        | no k ↦ rw (there i n, there j k) (s.once i j l m)
      ]
    ]
      where
        after : i ≡ at → j ≡ at → ⊥
        after e f = omega arith

-- the row where an id stands has that id, and a free place is a free row
pub place-stands : {rows : List Row} → Sound rows → (id : ℕ) → place_of id rows < rows_max → (row_at rows (place_of id rows)).id ≡ id
place-stands {rows} s id h = place-id id rows (rw s.sixteen h)

pub place-free : {rows : List Row} → Sound rows → free_at rows < rows_max → row_at rows (free_at rows) ≡ free_row
place-free {rows} s h = ⊎_elim (λ e. e) (λ t. absurd (clash (place-stands s 0 h) t.id-low)) (s.each (free_at rows) h)
  where
    clash : {x : ℕ} → x ≡ 0 → 1 ≤ x → ⊥
    clash e l = omega arith

-- an id that stands has one row
pub one-row : {rows : List Row} → Sound rows → (id : ℕ) → (id ≡ 0 → ⊥) → (k : ℕ) → k < rows_max → (row_at rows k).id ≡ id → k ≡ place_of id rows
one-row {rows} s id z k l e = ⊎_elim
    (λ (q : place_of id rows ≡ k). sym q)
    (λ (m : place_of id rows < k). let p = place-stands s id (omega arith) in absurd (z (sym p ∙ s.once (place_of id rows) k m l (p ∙ sym e))))
    (eq-or-lt_of_le (place-at-most id rows k e))

module _ (rows : List Row) (row : Row) where
  -- a refused placing changes nothing
  pub placed-refused : ((answer_to (placed rows row)).refusal ≡ 0 → ⊥) → changed rows (placed rows row) ≡ rows
  placed-refused = go (placing rows row)
    where
      go : {c : Result Change Refusal} → Placing rows row c → ((answer_to c).refusal ≡ 0 → ⊥) → changed rows c ≡ rows
      go (stands h) n = refl
      go (fills h f) n = absurd (n refl)
      go (full h f) n = refl

  -- a standing row keeps the board sound
  pub placed-sound : Sound rows → Standing row → Sound (changed rows (placed rows row))
  placed-sound s t = go (placing rows row)
    where
      go : {c : Result Change Refusal} → Placing rows row c → Sound (changed rows c)
      go (stands h) = s
      go (fills h f) = write-sound s (free_at rows) f row (inr t) (λ k l e. absurd (place-before row.id rows k (omega arith) e))
      go (full h f) = s

module _ (rows : List Row) (id : ℕ) where
  -- a refused withdrawal changes nothing
  pub withdrawn-refused : ((answer_to (withdrawn rows id)).refusal ≡ 0 → ⊥) → changed rows (withdrawn rows id) ≡ rows
  withdrawn-refused = go (withdrawing rows id)
    where
      go : {c : Result Change Refusal} → Withdrawing rows id c → ((answer_to c).refusal ≡ 0 → ⊥) → changed rows c ≡ rows
      go (unsound u) n = refl
      go (absent s a) n = refl
      go (frees s z h) n = absurd (n refl)

  -- it keeps the board sound
  pub withdrawn-sound : Sound rows → Sound (changed rows (withdrawn rows id))
  withdrawn-sound s = go (withdrawing rows id)
    where
      go : {c : Result Change Refusal} → Withdrawing rows id c → Sound (changed rows c)
      go (unsound u) = absurd (u s)
      go (absent w a) = s
      go (frees s z h) = write-sound s (place_of id rows) h free_row (inl refl) (λ k l e. refl)

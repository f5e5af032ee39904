-- Tables that stand, as a list: taking an id off takes off just the one table that has it, and adding up a figure of their rows follows.
use mathlib.Core.Path.{◌≡◌, refl, sym, ap, ◌∙◌}
use mathlib.Core.Logic.{⊎_elim}
use mathlib.Core.List.Memᴰ
use mathlib.Core.List.{List, [], ◌∷◌}
use Prim.Native.Nat.{ℕ, ◌+◌, ◌≤◌, max, zero-le}
use native.Mathlib.Nat.{max-le, le-max_left, le-max_right, le_trans}
use native.Mathlib.Omega.{arith}
use lib.Dec.{eqb}
use borrow.Author.Tests.{eqb-true, eqb-false, eq-eqb, ne_eqb}
use Rattle.tables.specs.declared.TaskTable.{TaskTable}
use Rattle.boards.specs.declared.Row.{Row}
use Rattle.plain.proofs.Picks.{pick-case}
use Rattle.admissions.specs.Admission.{row_of}
use Rattle.claims.specs.Calls.{without}
use Rattle.claims.specs.Day.{Among, NoIdTwice}
use Rattle.claims.specs.Day.NoIdTwice.{none, more}

-- a figure of the rows, added up over the tables, and the greatest
unfoldable pub sums_of : (Row → ℕ) → List TaskTable → ℕ
sums_of f [] = 0
sums_of f (t ∷ ts) = f (row_of t) + sums_of f ts

unfoldable pub max_of : (Row → ℕ) → List TaskTable → ℕ
max_of f [] = 0
max_of f (t ∷ ts) = max (f (row_of t)) (max_of f ts)

-- the greatest is at least each, and at most what each is at most
pub le-max_of : (f : Row → ℕ) (ts : List TaskTable) {t : TaskTable} → Among t ts → f (row_of t) ≤ max_of f ts
unfolding max_of
le-max_of f [] m = absurd (Memᴰ.not-nil m)
le-max_of f (u ∷ ts) {t} m = ⊎_elim
    (λ (e : t ≡ u). rw e (le-max_left (f (row_of u)) (max_of f ts)))
    (λ (n : Among t ts). le_trans (le-max_of f ts n) (le-max_right (f (row_of u)) (max_of f ts)))
    (Memᴰ.cases_cons m)

pub max_of-le : (f : Row → ℕ) (ts : List TaskTable) (b : ℕ) → ((t : TaskTable) → Among t ts → f (row_of t) ≤ b) → max_of f ts ≤ b
unfolding max_of
max_of-le f [] b h = zero-le
max_of-le f (t ∷ ts) b h = max-le (h t (Memᴰ.head refl)) (max_of-le f ts b (λ u m. h u (Memᴰ.tail m)))

module _ (id : ℕ) where
  -- what is left was there, and has another id
  pub without-among : (ts : List TaskTable) {u : TaskTable} → Among u (without id ts) → Among u ts × (u.id ≡ id → ⊥)
  unfolding without
  without-among [] m = absurd (Memᴰ.not-nil m)
  without-among (t ∷ ts) {u} m =
      pick-case (λ l. Among u l → Among u (t ∷ ts) × (u.id ≡ id → ⊥)) (eqb t.id id)
      (λ e n. let w = without-among ts n in (Memᴰ.tail w.0, w.1))
      (λ e n. ⊎_elim (λ (q : u ≡ t). (Memᴰ.head q, rw q (eqb-false t.id id e))) (λ (k : Among u (without id ts)). let w = without-among ts k in (Memᴰ.tail w.0, w.1)) (Memᴰ.cases_cons n)) m

  -- what has another id is left
  pub among-without : (ts : List TaskTable) {u : TaskTable} → Among u ts → (u.id ≡ id → ⊥) → Among u (without id ts)
  unfolding without
  among-without [] m n = absurd (Memᴰ.not-nil m)
  among-without (t ∷ ts) {u} m n =
      pick-case (λ l. Among u l) (eqb t.id id)
      (λ e. ⊎_elim (λ (q : u ≡ t). absurd (n (ap (λ (x : TaskTable). x.id) q ∙ eqb-true t.id id e))) (λ (k : Among u ts). among-without ts k n) (Memᴰ.cases_cons m))
      (λ e. ⊎_elim (λ (q : u ≡ t). Memᴰ.head q) (λ (k : Among u ts). Memᴰ.tail (among-without ts k n)) (Memᴰ.cases_cons m))

  -- no id twice, still
  pub without-apart : (ts : List TaskTable) → NoIdTwice ts → NoIdTwice (without id ts)
  unfolding without
  without-apart [] a = none
  without-apart (t ∷ ts) (more new a) =
      pick-case NoIdTwice (eqb t.id id)
      (λ e. without-apart ts a)
      (λ e. more (λ u m. new u (without-among ts m).0) (without-apart ts a))

  -- where no table has the id, none is taken off
  without-none : (ts : List TaskTable) → ((u : TaskTable) → Among u ts → u.id ≡ id → ⊥) → without id ts ≡ ts
  unfolding without
  without-none [] n = refl
  without-none (t ∷ ts) n = rw (ne_eqb t.id id (n t (Memᴰ.head refl))) (ap (λ (l : List TaskTable). t ∷ l) (without-none ts (λ u m. n u (Memᴰ.tail m))))

  -- one table has it, so one summand goes
  pub sums-without : (f : Row → ℕ) (ts : List TaskTable) → NoIdTwice ts → (u : TaskTable) → Among u ts → u.id ≡ id → sums_of f (without id ts) + f (row_of u) ≡ sums_of f ts
  unfolding without sums_of
  sums-without f [] a u m e = absurd (Memᴰ.not-nil m)
  sums-without f (t ∷ ts) (more new a) u m e = ⊎_elim
      (λ (q : u ≡ t).
      let same : t.id ≡ id = rw q at e in
      rw (eq-eqb t.id id same, without-none ts (λ x n d. new x n (d ∙ sym same)), q) (omega arith))
      (λ (n : Among u ts).
      let other : t.id ≡ id → ⊥ = λ d. new u n (e ∙ sym d) in
      rw (ne_eqb t.id id other) (let ih = sums-without f ts a u n e in omega arith))
      (Memᴰ.cases_cons m)

-- The next cut: the fold keeps the nearest finish above t met so far, so it lies above t, at or before each such finish, and is one of them or P.
use mathlib.Core.Path.{◌≡◌, refl, ◌∙◌}
use mathlib.Core.Logic.{◌⊎◌, inl, inr, ⊎_elim}
use Prim.Native.Nat.{ℕ, zero, suc, ◌≤◌, ◌<◌, min}
use native.Mathlib.Nat.{not-suc-le-zero, le_of_suc-le-suc, eq-or-lt_of_le, le_refl}
use native.Mathlib.Omega.{arith}
use borrow.Author.Tests.{lt-ltb, le-ltb}
use Rattle.plain.proofs.Lists.{lt-or-ge}
use Rattle.segments.specs.Cut.{next_to}

module _ (F : ℕ → ℕ) (P t : ℕ) where
  -- no node yet
  next-none : next_to 0 F P t ≡ P
  unfolding next_to
  next-none = refl

  -- a node whose finish lies above t, and one whose finish does not
  next-take : (m : ℕ) → t < F m → next_to (suc m) F P t ≡ min (F m) (next_to m F P t)
  unfolding next_to
  next-take m h = simp (lt-ltb t (F m) h)

  next-pass : (m : ℕ) → F m ≤ t → next_to (suc m) F P t ≡ next_to m F P t
  unfolding next_to
  next-pass m h = simp (le-ltb t (F m) h)

  -- one node more, either way
  abbrev Step : ℕ → Type 0
  Step m = ((t < F m) × (next_to (suc m) F P t ≡ min (F m) (next_to m F P t))) ⊎ ((F m ≤ t) × (next_to (suc m) F P t ≡ next_to m F P t))

  step : (m : ℕ) → Step m
  step m = ⊎_elim (λ (h : t < F m). inl (h, next-take m h)) (λ (h : F m ≤ t). inr (h, next-pass m h)) (lt-or-ge t (F m))

  -- not past P, and above t where P is
  pub next_le : (m : ℕ) → next_to m F P t ≤ P
  next_le zero = let e = next-none in omega arith
  next_le (suc m) = let ih = next_le m in ⊎_elim (λ w. omega arith) (λ w. omega arith) (step m)

  pub next-gt : (m : ℕ) → t < P → t < next_to m F P t
  next-gt zero h = let e = next-none in omega arith
  next-gt (suc m) h = let ih = next-gt m h in ⊎_elim (λ w. omega arith) (λ w. omega arith) (step m)

  -- at or before each finish above t
  pub next-least : (m v : ℕ) → v < m → t < F v → next_to m F P t ≤ F v
  next-least zero v h l = absurd (not-suc-le-zero h)
  next-least (suc m) v h l = ⊎_elim
      (λ (q : v ≡ m). let k : t < F m = rw q at l in let e = next-take m k in rw q (omega arith))
      (λ (q : v < m). let ih = next-least m v q l in ⊎_elim (λ w. omega arith) (λ w. omega arith) (step m))
      (eq-or-lt_of_le (le_of_suc-le-suc h))

  -- P or one of the finishes
  abbrev Is : ℕ → ℕ → Type 0
  Is m x = (x ≡ P) ⊎ ((v : ℕ) × (v < m) × (x ≡ F v))

  pub next-is : (m : ℕ) → (next_to m F P t ≡ P) ⊎ ((v : ℕ) × (v < m) × (next_to m F P t ≡ F v))
  next-is zero = inl next-none
  next-is (suc m) = go (next-is m) (step m) (lt-or-ge (F m) (next_to m F P t))
    where
      kept : {x : ℕ} → x ≡ next_to m F P t → Is m (next_to m F P t) → Is (suc m) x
      kept e (inl q) = inl (e ∙ q)
      kept e (inr w) = inr (w.0, (let h = w.1 in omega arith), e ∙ w.2)

      go : Is m (next_to m F P t) → Step m → (F m < next_to m F P t) ⊎ (next_to m F P t ≤ F m) → Is (suc m) (next_to (suc m) F P t)
      go r (inr w) z = kept w.1 r
      go r (inl w) (inl z) = inr (m, le_refl (suc m), omega arith)
      go r (inl w) (inr z) = kept (omega arith) r

  -- P where no finish lies above t
  pub next-end : (m : ℕ) → ((v : ℕ) → v < m → F v ≤ t) → next_to m F P t ≡ P
  next-end zero f = next-none
  next-end (suc m) f = next-pass m (f m (le_refl (suc m))) ∙ next-end m (λ v h. f v (omega arith))

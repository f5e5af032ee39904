-- The cuts: each is the least finish above the one before, so no finish lies between two neighbours, and one node more at least has finished
-- at each: after n cuts the path is reached.
use mathlib.Core.Path.{◌≡◌, refl, ◌∙◌}
use mathlib.Core.Logic.{◌⊎◌, inl, inr, ⊎_elim}
use Prim.Native.Nat.{ℕ, zero, suc, ◌≤◌, ◌<◌, zero-le}
use native.Mathlib.Nat.{le_refl, le_trans}
use native.Mathlib.Decide.{le_ind}
use native.Mathlib.Omega.{arith}
use Rattle.plain.specs.Pick.{up_to}
use Rattle.plain.specs.Sums.{sum_to}
use Rattle.plain.proofs.Lists.{lt-or-ge}
use Rattle.plain.proofs.Flags.{up_to-is}
use Rattle.plain.proofs.Sums.{sum_less, sum_ones, le-max_to, max_to-is}
use Rattle.segments.specs.Cut.{latest, next, cut}
use Rattle.segments.proofs.Next.{next_le, next-gt, next-least, next-is, next-end}

-- 0 or a finish
abbrev pub Mark : (n : ℕ) (F : ℕ → ℕ) (t : ℕ) → Type 0
Mark n F t = (t ≡ 0) ⊎ ((v : ℕ) × (v < n) × (t ≡ F v))

module _ (n : ℕ) (F : ℕ → ℕ) where
  -- the first cut is 0
  pub cut-none : cut n F 0 ≡ 0
  unfolding cut
  cut-none = refl

  -- no finish lies past the path, and no cut does
  pub finish-le : (v : ℕ) → v < n → F v ≤ latest n F
  finish-le v h = le-max_to n F v h

  pub cut-le : (j : ℕ) → cut n F j ≤ latest n F
  unfolding cut next
  cut-le zero = zero-le
  cut-le (suc j) = next_le F (latest n F) (cut n F j) n

  -- before the path the next cut is later
  pub cut_up : (j : ℕ) → cut n F j < latest n F → cut n F j < cut n F (suc j)
  unfolding cut next
  cut_up j h = next-gt F (latest n F) (cut n F j) n h

  -- at the path the cuts stay
  pub cut-stay : (j : ℕ) → latest n F ≤ cut n F j → cut n F (suc j) ≡ latest n F
  unfolding cut next
  cut-stay j h = next-end F (latest n F) (cut n F j) n (λ v l. le_trans (finish-le v l) h)

  -- so the cuts ascend
  pub cut_step : (j : ℕ) → cut n F j ≤ cut n F (suc j)
  cut_step j = ⊎_elim
      (λ (h : cut n F j < latest n F). let a = cut_up j h in omega arith)
      (λ (h : latest n F ≤ cut n F j). let a = cut-stay j h in let b = cut-le j in omega arith)
      (lt-or-ge (cut n F j) (latest n F))

  pub cut-mono : (i j : ℕ) → i ≤ j → cut n F i ≤ cut n F j
  cut-mono i j h = le_ind (λ (k : ℕ). cut n F i ≤ cut n F k) (le_refl (cut n F i)) (λ k l ih. let a = cut_step k in omega arith) j h

  -- every cut is 0 or a finish
  pub cut-mark : (j : ℕ) → Mark n F (cut n F j)
  unfolding cut next
  cut-mark zero = inl refl
  cut-mark (suc j) = ⊎_elim (λ e. at_path e (max_to-is n F)) (λ w. inr w) (next-is F (latest n F) (cut n F j) n)
    where
      at_path : {x : ℕ} → x ≡ latest n F → Mark n F (latest n F) → Mark n F x
      at_path e (inl z) = inl (e ∙ z)
      at_path e (inr w) = inr (w.0, w.1, e ∙ w.2)

  -- between two neighbours lies no finish
  pub gap : {t : ℕ} → Mark n F t → (j : ℕ) → (t ≤ cut n F j) ⊎ (cut n F (suc j) ≤ t)
  unfolding cut next
  gap (inl z) j = inl (omega arith)
  gap {t} (inr w) j = ⊎_elim
      (λ (h : cut n F j < t). inr (rw w.2 (next-least F (latest n F) (cut n F j) n w.0 w.1 (rw w.2 at h))))
      (λ (h : t ≤ cut n F j). inl h)
      (lt-or-ge (cut n F j) t)

  -- how many nodes have finished by cut j: more at each cut before the path
  abbrev done : ℕ → ℕ
  done j = sum_to n (λ v. up_to (F v) (cut n F j))

  grow : (j : ℕ) → cut n F j < latest n F → done j < done (suc j)
  grow j h = go (cut-mark (suc j)) (cut_up j h)
    where
      go : Mark n F (cut n F (suc j)) → cut n F j < cut n F (suc j) → done j < done (suc j)
      go (inl z) u = absurd (omega arith)
      go (inr w) u = sum_less n _ _
          (λ v l. let b = up_to-is (F v) (cut n F j) in let c = up_to-is (F v) (cut n F (suc j)) in omega arith)
          w.0 w.1
          (let b = up_to-is (F w.0) (cut n F j) in let c = up_to-is (F w.0) (cut n F (suc j)) in let e = w.2 in omega arith)

  -- each cut so far has one node of its own, or the path is reached
  reach : (j : ℕ) → (cut n F j ≡ latest n F) ⊎ (j ≤ done j)
  reach zero = inr zero-le
  reach (suc j) = go (reach j) (lt-or-ge (cut n F j) (latest n F))
    where
      go : (cut n F j ≡ latest n F) ⊎ (j ≤ done j) → (cut n F j < latest n F) ⊎ (latest n F ≤ cut n F j) → (cut n F (suc j) ≡ latest n F) ⊎ (suc j ≤ done (suc j))
      go r (inr h) = inl (cut-stay j h)
      go (inl e) (inl h) = absurd (omega arith)
      go (inr l) (inl h) = inr (let a = grow j h in omega arith)

  -- after n cuts the path is reached
  pub cut-last : cut n F n ≡ latest n F
  cut-last = ⊎_elim (λ (e : cut n F n ≡ latest n F). e) (λ (l : n ≤ done n). full l (max_to-is n F)) (reach n)
    where
      few : (v : ℕ) → v < n → n ≤ done n → cut n F n < F v → ⊥
      few v h l q =
          let a = sum_less n (λ u. up_to (F u) (cut n F n)) (λ u. 1) (λ u k. let b = up_to-is (F u) (cut n F n) in omega arith) v h (let b = up_to-is (F v) (cut n F n) in omega arith) in
          let c = sum_ones n in
          omega arith

      full : n ≤ done n → Mark n F (latest n F) → cut n F n ≡ latest n F
      full l (inl z) = let a = cut-le n in omega arith
      full l (inr w) = ⊎_elim
          (λ (q : cut n F n < F w.0). absurd (few w.0 w.1 l q))
          (λ (q : F w.0 ≤ cut n F n). let a = cut-le n in let e = w.2 in omega arith)
          (lt-or-ge (cut n F n) (F w.0))

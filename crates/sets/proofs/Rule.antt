-- A set by a rule: its digits are what the rule says, because each number below n is put in once or not at all.
use mathlib.Core.Path.{◌≡◌, refl, sym, ap, ap₂, ◌∙◌}
use mathlib.Core.Logic.{◌⊎◌, inl, inr, ⊎_elim}
use Prim.Native.Nat.{ℕ, zero, suc, ◌+◌, ◌*◌, ◌^◌, ◌≤◌, ◌<◌}
use native.Mathlib.Nat.{pow-suc, le_of_suc-le-suc, not-suc-le-zero, eq-or-lt_of_le, le_refl, one-mul, zero-mul}
use native.Mathlib.Omega.{arith}
use lib.Count.{ones}
use Rattle.plain.specs.Sums.{sum_to}
use Rattle.plain.proofs.Lists.{lt-or-ge}
use Rattle.sets.specs.Member.{bit}
use Rattle.sets.specs.Size.{size_to}
use Rattle.sets.specs.Rule.{set_of}
use Rattle.sets.proofs.Bits.{bit-zero, bit-put-same, bit-put-other}
use Rattle.sets.proofs.Sizes.{ones-size}

zero-or-one : (x : ℕ) → x ≤ 1 → (x ≡ 0) ⊎ (x ≡ 1)
zero-or-one x h = ⊎_elim (λ (l : x < 1). inl (omega arith)) (λ (l : 1 ≤ x). inr (omega arith)) (lt-or-ge x 1)

module _ (f : ℕ → ℕ) (flag : (v : ℕ) → f v ≤ 1) where
  put : (n : ℕ) → ((f n ≡ 0) × (set_of (suc n) f ≡ set_of n f)) ⊎ ((f n ≡ 1) × (set_of (suc n) f ≡ set_of n f + 2 ^ n))
  unfolding set_of
  put n = ⊎_elim
      (λ (e : f n ≡ 0). inl (e, ap (λ (x : ℕ). set_of n f + x * 2 ^ n) e ∙ (let a = zero-mul (2 ^ n) in omega arith)))
      (λ (e : f n ≡ 1). inr (e, ap (λ (x : ℕ). set_of n f + x * 2 ^ n) e ∙ (let a = one-mul (2 ^ n) in omega arith)))
      (zero-or-one (f n) (flag n))

  pub bit_past : (n v : ℕ) → n ≤ v → bit v (set_of n f) ≡ 0
  unfolding set_of
  bit_past zero v h = bit-zero v
  bit_past (suc n) v h = ⊎_elim (λ w. ap (bit v) w.1 ∙ bit_past n v (omega arith)) (λ w. ap (bit v) w.1 ∙ bit-put-other n v (set_of n f) ne (bit_past n n (le_refl n)) ∙ bit_past n v (omega arith)) (put n)
    where
      ne : v ≡ n → ⊥
      ne e = omega arith

  pub bit-set : (n v : ℕ) → v < n → bit v (set_of n f) ≡ f v
  bit-set zero v h = absurd (not-suc-le-zero h)
  bit-set (suc n) v h = go (λ l. bit-set n v l) (put n) (eq-or-lt_of_le (le_of_suc-le-suc h))
    where
      go : (v < n → bit v (set_of n f) ≡ f v) → ((f n ≡ 0) × (set_of (suc n) f ≡ set_of n f)) ⊎ ((f n ≡ 1) × (set_of (suc n) f ≡ set_of n f + 2 ^ n)) → (v ≡ n) ⊎ (v < n) → bit v (set_of (suc n) f) ≡ f v
      go ih (inl w) (inl e) = ap (bit v) w.1 ∙ bit_past n v (omega arith) ∙ sym (ap f e ∙ w.0)
      go ih (inl w) (inr l) = ap (bit v) w.1 ∙ ih l
      go ih (inr w) (inl e) = ap₂ bit e w.1 ∙ bit-put-same n (set_of n f) (bit_past n n (le_refl n)) ∙ sym (ap f e ∙ w.0)
      go ih (inr w) (inr l) = ap (bit v) w.1 ∙ bit-put-other n v (set_of n f) ne (bit_past n n (le_refl n)) ∙ ih l
        where
          ne : v ≡ n → ⊥
          ne e = omega arith

  pub set-lt : (n : ℕ) → set_of n f < 2 ^ n
  unfolding set_of
  set-lt zero = omega arith
  set-lt (suc n) = let ih = set-lt n in rw (pow-suc 2 n) (⊎_elim (λ w. omega arith) (λ w. omega arith) (put n))

  size_below : (n d : ℕ) → d ≤ n → size_to d (set_of n f) ≡ sum_to d f
  unfolding size_to sum_to
  size_below n zero h = refl
  size_below n (suc d) h = let ih = size_below n d (omega arith) in let b = bit-set n d h in omega arith

  -- its size is the sum of what the rule says
  pub ones-set : (n : ℕ) → ones (set_of n f) ≡ sum_to n f
  ones-set n = ones-size n (set_of n f) (set-lt n) ∙ size_below n n (le_refl n)

-- a word whose digits below x are what f says, with nothing from x on
pub record Collected (f : ℕ → ℕ) (x s : ℕ) : Type 0 where
  pub done : (y : ℕ) → y < x → bit y s ≡ f y
  pub rest : (y : ℕ) → x ≤ y → bit y s ≡ 0

-- Sizes of sets: a size is a sum of digits, so it grows with each member put in and is smaller where one is missing.
use mathlib.Core.Path.{◌≡◌, refl, sym, ap, ap₂, ◌∙◌}
use mathlib.Core.Logic.{◌⊎◌, inl, inr, ⊎_elim}
use Prim.Native.Nat.{ℕ, zero, suc, ◌+◌, ◌*◌, ◌/◌, ◌%◌, ◌^◌, ◌≤◌, ◌<◌, zero-le}
use native.Mathlib.Nat.{pow-suc, le_of_suc-le-suc, not-suc-le-zero, le_refl, eq-or-lt_of_le}
use native.Mathlib.Omega.{arith}
use native.Mathlib.Decide.{ℕ_discrete}
use lib.Bits.{bit_or}
use lib.Count.{ones, ones_in, ones_step}
use lib.ListN.{length, length-append}
use Rattle.plain.specs.Sums.{sum_to}
use Rattle.sets.specs.Member.{bit, Member}
use Rattle.sets.specs.Size.{size_to}
use Rattle.sets.specs.Members.{only, members}
use Rattle.sets.proofs.Bits.{bit_le, bit-zero, mem-or, put_other, put_same}

size_step : (d s : ℕ) → size_to (suc d) s ≡ s % 2 + size_to d (s / 2)
unfolding size_to sum_to bit
size_step zero s = omega arith
size_step (suc d) s = let ih = size_step d s in omega arith

pub ones-size : (d s : ℕ) → s < 2 ^ d → ones s ≡ size_to d s
unfolding size_to sum_to
ones-size zero s h = let e : s ≡ 0 = omega arith in rw e (unfold ones ones_in in refl)
ones-size (suc d) s h = ones_step s ∙ ap (λ (x : ℕ). s % 2 + x) (ones-size d (s / 2) half) ∙ sym (size_step d s)
  where
    h2 : s < 2 ^ d * 2
    h2 = rw (pow-suc 2 d) at h

    half : s / 2 < 2 ^ d
    half = let h3 = h2 in omega arith

pub size_none : (d : ℕ) → size_to d 0 ≡ 0
unfolding size_to sum_to
size_none zero = refl
size_none (suc d) = let a = size_none d in let b = bit-zero d in omega arith

-- counts of sets, one within another
pub size_mono : (d a b : ℕ) → ((k : ℕ) → Member k a → Member k b) → size_to d a ≤ size_to d b
unfolding size_to sum_to
size_mono zero a b f = zero-le
size_mono (suc d) a b f = let ih = size_mono d a b f in let m = mono d in omega arith
  where
    mono : (k : ℕ) → bit k a ≤ bit k b
    mono k = elim (ℕ_discrete (bit k a) 1) [
      | yes m ↦ (let n = f k m in omega arith)
      | no n ↦ (let x = bit_le k a in omega arith)
    ]

pub size_less : (d a b x : ℕ) → ((k : ℕ) → Member k a → Member k b) → x < d → Member x b → bit x a ≡ 0 → size_to d a < size_to d b
unfolding size_to sum_to
size_less zero a b x f l m z = absurd (not-suc-le-zero l)
size_less (suc d) a b x f l m z = ⊎_elim here (λ (lt : x < d). there (size_less d a b x f lt m z)) (eq-or-lt_of_le (le_of_suc-le-suc l))
  where
    here : x ≡ d → size_to d a + bit d a < size_to d b + bit d b
    here e = let i = size_mono d a b f in let y : bit d b ≡ 1 = rw e at m in let w : bit d a ≡ 0 = rw e at z in omega arith

    there : size_to d a < size_to d b → size_to d a + bit d a < size_to d b + bit d b
    there ih = let i = size_mono (suc d) a b f in elim (ℕ_discrete (bit d a) 1) [
      | yes q ↦ (let n = f d q in omega arith)
      | no n ↦ (let y = bit_le d a in omega arith)
    ]

pub size-full : (d s : ℕ) → size_to d s ≤ d
unfolding size_to sum_to
size-full zero s = zero-le
size-full (suc d) s = let ih = size-full d s in let b = bit_le d s in omega arith

pub size-lt : (d s x : ℕ) → x < d → bit x s ≡ 0 → size_to d s < d
unfolding size_to sum_to
size-lt zero s x l z = absurd (not-suc-le-zero l)
size-lt (suc d) s x l z = ⊎_elim here (λ (lt : x < d). there (size-lt d s x lt z)) (eq-or-lt_of_le (le_of_suc-le-suc l))
  where
    here : x ≡ d → size_to d s + bit d s < suc d
    here e = let i = size-full d s in let w : bit d s ≡ 0 = rw e at z in omega arith

    there : size_to d s < d → size_to d s + bit d s < suc d
    there ih = let b = bit_le d s in omega arith

-- counts: one more put in; all there; one missing
pub size_same : (d a b : ℕ) → ((k : ℕ) → k < d → bit k a ≡ bit k b) → size_to d a ≡ size_to d b
unfolding size_to sum_to
size_same zero a b f = refl
size_same (suc d) a b f = let ih = size_same d a b (λ k h. f k (omega arith)) in let e = f d (omega arith) in omega arith

pub size-put : (d s v : ℕ) → v < d → bit v s ≡ 0 → size_to d (bit_or s (2 ^ v)) ≡ suc (size_to d s)
unfolding size_to sum_to
size-put zero s v l z = absurd (not-suc-le-zero l)
size-put (suc d) s v l z = ⊎_elim here (λ (lt : v < d). there lt (size-put d s v lt z)) (eq-or-lt_of_le (le_of_suc-le-suc l))
  where
    here : v ≡ d → size_to d (bit_or s (2 ^ v)) + bit d (bit_or s (2 ^ v)) ≡ suc (size_to d s + bit d s)
    here e =
        let a = size_same d (bit_or s (2 ^ v)) s (λ k h. put_other s v k (λ q. ne k h (q ∙ e))) in
        let b : bit d (bit_or s (2 ^ v)) ≡ 1 = ap (λ (x : ℕ). bit x (bit_or s (2 ^ v))) (sym e) ∙ put_same s v in
        let c : bit d s ≡ 0 = ap (λ (x : ℕ). bit x s) (sym e) ∙ z in
        omega arith
      where
        ne : (k : ℕ) → k < d → k ≡ d → ⊥
        ne k h q = omega arith

    there : v < d → size_to d (bit_or s (2 ^ v)) ≡ suc (size_to d s) → size_to d (bit_or s (2 ^ v)) + bit d (bit_or s (2 ^ v)) ≡ suc (size_to d s + bit d s)
    there lt ih = let a = put_other s v d (λ q. ne q) in omega arith
      where
        ne : d ≡ v → ⊥
        ne q = omega arith

pub size-all : (d s k : ℕ) → size_to d s ≡ d → k < d → Member k s
size-all d s k e h = ⊎_elim (λ (m : Member k s). m) (λ (z : bit k s ≡ 0). absurd (no (size-lt d s k h z))) (mem-or k s)
  where
    no : size_to d s < d → ⊥
    no l = omega arith

pub size-hole : (d s : ℕ) → size_to d s < d → (x : ℕ) × (x < d) × (bit x s ≡ 0)
unfolding size_to sum_to
size-hole zero s l = absurd (not-suc-le-zero l)
size-hole (suc d) s l = go (size-hole d s) (mem-or d s)
  where
    go : (size_to d s < d → (x : ℕ) × (x < d) × (bit x s ≡ 0)) → (Member d s) ⊎ (bit d s ≡ 0) → (x : ℕ) × (x < suc d) × (bit x s ≡ 0)
    go ih (inr z) = (d, le_refl (suc d), z)
    go ih (inl m) = let r = ih (omega arith) in (r.0, omega arith, r.2)

-- a list's length
pub length-members : (d s : ℕ) → length (members d s) ≡ size_to d s
unfolding members size_to sum_to
length-members zero s = refl
length-members (suc d) s = length-append (members d s) (only (bit d s) d) ∙ ap₂ (λ (x y : ℕ). x + y) (length-members d s) (one (bit d s) d (bit_le d s))
  where
    one : (b k : ℕ) → b ≤ 1 → length (only b k) ≡ b
    one zero k h = refl
    one (suc b) k h = omega arith

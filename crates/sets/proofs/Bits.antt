-- Digits of a word: halving a word drops its lowest digit, so each law about one digit is a law about the lowest one, and the rest by induction.
use mathlib.Core.Path.{◌≡◌, refl, sym, ap, ◌∙◌}
use mathlib.Core.Logic.{◌⊎◌, inl, inr, ⊎_elim}
use mathlib.Core.Bool.{Bool, true, false}
use Prim.Native.Nat.{ℕ, zero, suc, ◌+◌, ◌-◌, ◌*◌, ◌/◌, ◌%◌, ◌^◌, ◌≤◌, ◌<◌, zero-le, suc-le-suc, min, max}
use native.Mathlib.Nat.{pow-suc, div-div-eq-div-mul, mul_comm, le_of_suc-le-suc, not-suc-le-zero, div-one, one-mul, zero-add}
use native.Mathlib.Omega.{arith}
use native.Mathlib.Decide.{ℕ_discrete}
use lib.Bits.{bit_and, bit_or, and_step, or_step, and_self}
use lib.Pow.{shl_exact}
use lib.Arith.{bin_ind}
use lib.Dec.{eqb, lit<}
use borrow.Author.Tests.{eqb-true, eqb-false}
use Rattle.plain.specs.Pick.{pick}
use Rattle.sets.specs.Member.{bit, Member, is_member}
use Rattle.sets.specs.Inner.Last.{Last}
use Rattle.sets.specs.Inner.Put.{with_member}

pub bit_le : (k s : ℕ) → bit k s ≤ 1
unfolding bit
bit_le zero s = omega arith
bit_le (suc k) s = bit_le k (s / 2)

-- as the code shifts and masks
pub bit-shift : (k s : ℕ) → s / 2 ^ k % 2 ≡ bit k s
unfolding bit
bit-shift zero s = ap (λ (x : ℕ). x % 2) (div-one s)
bit-shift (suc k) s = rw (pow-suc 2 k, mul_comm (2 ^ k) 2, ← (div-div-eq-div-mul s 2 (2 ^ k))) (bit-shift k (s / 2))

pub bit-zero : (k : ℕ) → bit k 0 ≡ 0
unfolding bit
bit-zero zero = refl
bit-zero (suc k) = bit-zero k

pub bit-and : (k a b : ℕ) → bit k (bit_and a b) ≡ min (bit k a) (bit k b)
unfolding bit
bit-and zero a b = rw (and_step a b) (omega arith)
bit-and (suc k) a b = ap (bit k) half ∙ bit-and k (a / 2) (b / 2)
  where
    half : bit_and a b / 2 ≡ bit_and (a / 2) (b / 2)
    half = rw (and_step a b) (omega arith)

pub bit-or : (k a b : ℕ) → bit k (bit_or a b) ≡ max (bit k a) (bit k b)
unfolding bit
bit-or zero a b = rw (or_step a b) (omega arith)
bit-or (suc k) a b = ap (bit k) half ∙ bit-or k (a / 2) (b / 2)
  where
    half : bit_or a b / 2 ≡ bit_or (a / 2) (b / 2)
    half = rw (or_step a b) (omega arith)

-- the digits of `!s`
pub bit_not : (d k s : ℕ) → k < d → s < 2 ^ d → bit k (2 ^ d - 1 - s) ≡ 1 - bit k s
unfolding bit
bit_not zero k s l h = absurd (not-suc-le-zero l)
bit_not (suc d) zero s l h = let p = pow-suc 2 d in omega arith
bit_not (suc d) (suc k) s l h = ap (bit k) half ∙ bit_not d k (s / 2) (le_of_suc-le-suc l) (let p = pow-suc 2 d in omega arith)
  where
    half : (2 ^ suc d - 1 - s) / 2 ≡ 2 ^ d - 1 - s / 2
    half = let p = pow-suc 2 d in omega arith

-- a number put in, a number taken out
pub bit-put-same : (p s : ℕ) → bit p s ≡ 0 → bit p (s + 2 ^ p) ≡ 1
unfolding bit
bit-put-same zero s h = omega arith
bit-put-same (suc p) s h = ap (bit p) half ∙ bit-put-same p (s / 2) h
  where
    half : (s + 2 ^ suc p) / 2 ≡ s / 2 + 2 ^ p
    half = rw (pow-suc 2 p) (omega arith)

pub bit-put-other : (p k s : ℕ) → (k ≡ p → ⊥) → bit p s ≡ 0 → bit k (s + 2 ^ p) ≡ bit k s
unfolding bit
bit-put-other zero zero s n h = absurd (n refl)
bit-put-other zero (suc k) s n h = ap (bit k) half
  where
    half : (s + 2 ^ 0) / 2 ≡ s / 2
    half = omega arith
bit-put-other (suc p) zero s n h = rw (pow-suc 2 p) (omega arith)
bit-put-other (suc p) (suc k) s n h = ap (bit k) half ∙ bit-put-other p k (s / 2) (λ e. n (ap suc e)) h
  where
    half : (s + 2 ^ suc p) / 2 ≡ s / 2 + 2 ^ p
    half = rw (pow-suc 2 p) (omega arith)

-- the power alone
pub bit-pow-same : (p : ℕ) → bit p (2 ^ p) ≡ 1
unfolding bit
bit-pow-same zero = refl
bit-pow-same (suc p) = rw (pow-suc 2 p) (ap (bit p) half ∙ bit-pow-same p)
  where
    half : 2 ^ p * 2 / 2 ≡ 2 ^ p
    half = omega arith

-- a member's power is within the number
pub mem-le : (p s : ℕ) → Member p s → 2 ^ p ≤ s
unfolding bit
mem-le zero s h = omega arith
mem-le (suc p) s h = rw (pow-suc 2 p) (omega (arith, mem-le p (s / 2) h))

-- taking a member out: s is what is left, with the member put in
pub bit-out-same : (p s : ℕ) → Member p s → bit p (s - 2 ^ p) ≡ 0
unfolding bit
bit-out-same zero s h = omega arith
bit-out-same (suc p) s h = ap (bit p) half ∙ bit-out-same p (s / 2) h
  where
    half : (s - 2 ^ suc p) / 2 ≡ s / 2 - 2 ^ p
    half = rw (pow-suc 2 p) (omega (arith, mem-le p (s / 2) h))

pub bit-out-other : (p k s : ℕ) → (k ≡ p → ⊥) → Member p s → bit k (s - 2 ^ p) ≡ bit k s
unfolding bit
bit-out-other zero zero s n h = absurd (n refl)
bit-out-other zero (suc k) s n h = ap (bit k) half
  where
    half : (s - 2 ^ 0) / 2 ≡ s / 2
    half = omega arith
bit-out-other (suc p) zero s n h = rw (pow-suc 2 p) (omega (arith, mem-le p (s / 2) h))
bit-out-other (suc p) (suc k) s n h = ap (bit k) half ∙ bit-out-other p k (s / 2) (λ e. n (ap suc e)) h
  where
    half : (s - 2 ^ suc p) / 2 ≡ s / 2 - 2 ^ p
    half = rw (pow-suc 2 p) (omega (arith, mem-le p (s / 2) h))

-- `s & (s - 1)` takes the lowest member out: an odd word loses its last digit, and halving leads any other to its half
pub low_clear : (p s : ℕ) → Member p s → ((k : ℕ) → k < p → bit k s ≡ 0) → bit_and s (s - 1) ≡ s - 2 ^ p
unfolding bit
low_clear zero s m low =
    let a = and_step s (s - 1) in
    let b : (s - 1) / 2 ≡ s / 2 = omega arith in
    let c = ap (bit_and (s / 2)) b ∙ and_self (s / 2) in
    omega arith
low_clear (suc p) s m low =
    let a = and_step s (s - 1) in
    let e = low 0 (suc-le-suc zero-le) in
    let b : (s - 1) / 2 ≡ s / 2 - 1 = omega arith in
    let c = ap (bit_and (s / 2)) b ∙ low_clear p (s / 2) m (λ k h. low (suc k) (suc-le-suc h)) in
    rw (pow-suc 2 p) (omega arith)

pub bit-pow-other : (p k : ℕ) → (k ≡ p → ⊥) → bit k (2 ^ p) ≡ 0
bit-pow-other p k n = ap (bit k) (sym (zero-add (2 ^ p))) ∙ bit-put-other p k 0 n (bit-zero p) ∙ bit-zero k

-- bounds: a word of d digits has its members below d
pub mem-lt : (d k s : ℕ) → s < 2 ^ d → Member k s → k < d
unfolding bit
mem-lt zero zero s h m = absurd (lt0 h m)
  where
    lt0 : s < 2 ^ 0 → s % 2 ≡ 1 → ⊥
    lt0 a b = omega arith
mem-lt zero (suc k) s h m = absurd (not-suc-le-zero (mem-lt zero k (s / 2) half m))
  where
    half : s / 2 < 2 ^ 0
    half = omega arith
mem-lt (suc d) zero s h m = suc-le-suc zero-le
mem-lt (suc d) (suc k) s h m = suc-le-suc (mem-lt d k (s / 2) half m)
  where
    h2 : s < 2 ^ d * 2
    h2 = rw (pow-suc 2 d) at h

    half : s / 2 < 2 ^ d
    half = let h3 = h2 in omega arith

-- the last member's power is the greatest within the word
bit-top : (k s : ℕ) → 2 ^ k ≤ s → s < 2 ^ suc k → bit k s ≡ 1
unfolding bit
bit-top zero s a b = omega arith
bit-top (suc k) s a b =
    let low : 2 ^ k * 2 ≤ s = rw pow-suc at a in
    let high : s < 2 ^ suc k * 2 = rw (pow-suc 2 (suc k)) at b in
    bit-top k (s / 2) (omega arith) (omega arith)

pub greatest_power : (k s : ℕ) → k < 64 → 2 ^ k ≤ s → s < 2 * 2 ^ k → Last k s
greatest_power k s low a b =
    let high : s < 2 ^ suc k = rw (pow-suc 2 k) (omega arith) in
    record { low = low; mem = bit-top k s a high; top = λ j m. le_of_suc-le-suc (mem-lt (suc k) j s high m) }

-- two numbers with the same digits are one
half-eq : (a b : ℕ) → a / 2 ≡ b / 2 → a % 2 ≡ b % 2 → a ≡ b
half-eq a b p q = omega arith

pub same_bits : (a b : ℕ) → ((k : ℕ) → bit k a ≡ bit k b) → a ≡ b
unfolding bit
same_bits a = bin_ind (λ (x : ℕ). (b : ℕ) → ((k : ℕ) → bit k x ≡ bit k b) → x ≡ b)
    (λ b f. sym (all-zero b (λ k. sym (f k) ∙ bit-zero k)))
    (λ x ih b f. half-eq x b (ih (b / 2) (λ k. f (suc k))) (f 0)) a
  where
    all-zero : (b : ℕ) → ((k : ℕ) → bit k b ≡ 0) → b ≡ 0
    all-zero = bin_ind (λ (b : ℕ). ((k : ℕ) → bit k b ≡ 0) → b ≡ 0) (λ f. refl)
        (λ b ih f. half-eq b 0 (ih (λ k. f (suc k))) (f 0))

-- a member is there or not
pub mem-or : (k s : ℕ) → (Member k s) ⊎ (bit k s ≡ 0)
mem-or k s = elim (ℕ_discrete (bit k s) 1) [
  | yes m ↦ inl m
  | no n ↦ (let x = bit_le k s in inr (omega arith))
]

pub not-mem : {x : ℕ} → x ≡ 0 → x ≡ 1 → ⊥
not-mem a b = omega arith

-- the members of `a & b` are those of both
pub mem-and : (k a b : ℕ) → Member k (bit_and a b) → Member k a × Member k b
mem-and k a b m = let e = bit-and k a b in let x = bit_le k a in let y = bit_le k b in (omega arith, omega arith)

pub and-mem : (k a b : ℕ) → Member k a → Member k b → Member k (bit_and a b)
and-mem k a b x y = let e = bit-and k a b in omega arith

pub mem-or-l : (k a b : ℕ) → Member k a → Member k (bit_or a b)
mem-or-l k a b m = let x = bit-or k a b in let y = bit_le k b in omega arith

pub mem-or-r : (k a b : ℕ) → Member k b → Member k (bit_or a b)
mem-or-r k a b m = let x = bit-or k a b in let y = bit_le k a in omega arith

pub mem-or-cases : (k a b : ℕ) → Member k (bit_or a b) → (Member k a) ⊎ (Member k b)
mem-or-cases k a b m = ⊎_elim (λ (x : Member k a). inl x) (λ (z : bit k a ≡ 0). inr (let y = bit-or k a b in omega arith)) (mem-or k a)

pub put_other : (s v k : ℕ) → (k ≡ v → ⊥) → bit k (bit_or s (2 ^ v)) ≡ bit k s
put_other s v k n = let a = bit-or k s (2 ^ v) in let b = bit-pow-other v k n in omega arith

pub put_same : (s v : ℕ) → Member v (bit_or s (2 ^ v))
put_same s v = mem-or-r v s (2 ^ v) (bit-pow-same v)

-- `1 << k`
pub one_shl : (k : ℕ) → k < 64 → 1 * 2 ^ k % 2 ^ 64 ≡ 2 ^ k
one_shl k h = shl_exact 1 k 64 (lit< tt) (omega arith) ∙ one-mul (2 ^ k)

-- what a test of a member says, as numbers
pub has_in : (k s : ℕ) → is_member k s ≡ true → Member k s
has_in k s e = eqb-true (bit k s) 1 e

pub has-out : (k s : ℕ) → is_member k s ≡ false → bit k s ≡ 0
has-out k s e = let n = eqb-false (bit k s) 1 e in let l = bit_le k s in omega arith

-- putting a member in is `s | (1 << k)`, whether or not it was there
pub with-or : (k s : ℕ) → with_member k s ≡ bit_or s (2 ^ k)
unfolding with_member
with-or k s = go (eqb (bit k s) 1) refl
  where
    go : (t : Bool) → eqb (bit k s) 1 ≡ t → pick t s (s + 2 ^ k) ≡ bit_or s (2 ^ k)
    go true e = same_bits s (bit_or s (2 ^ k)) λ j. elim (ℕ_discrete j k) [
      | yes q ↦ rw q (has_in k s e ∙ sym (put_same s k))
      | no q ↦ sym (put_other s k j q)
    ]
    go false e = same_bits (s + 2 ^ k) (bit_or s (2 ^ k)) λ j. elim (ℕ_discrete j k) [
      | yes q ↦ rw q (bit-put-same k s (has-out k s e) ∙ sym (put_same s k))
      | no q ↦ bit-put-other k j s q (has-out k s e) ∙ sym (put_other s k j q)
    ]

-- Leaving k out changes the digit at k alone, because a digit of 1 there is what is taken off; as a word that is `s & !(1 << k)`.
use mathlib.Core.Path.{◌≡◌, sym, ap, ◌∙◌}
use mathlib.Core.Logic.{⊎_elim}
use Prim.Native.Nat.{ℕ, ◌-◌, ◌^◌, ◌≤◌, ◌<◌, min}
use native.Mathlib.Nat.{one-mul, zero-mul}
use native.Mathlib.Omega.{arith}
use native.Mathlib.Decide.{ℕ_discrete}
use lib.Bits.{bit_and, and_le_l}
use lib.Pow.{pow-lt}
use Rattle.plain.proofs.Lists.{lt-or-ge}
use Rattle.sets.specs.Member.{bit, Member}
use Rattle.sets.specs.Without.{without_member}
use Rattle.sets.proofs.Bits.{bit_le, bit-and, bit_not, bit-pow-same, bit-pow-other, bit-out-same, bit-out-other, mem-lt, mem-or, not-mem, same_bits}

-- a member is taken off, and what is none changes nothing
off : (k s : ℕ) → Member k s → without_member k s ≡ s - 2 ^ k
unfolding without_member
off k s m = rw (m, one-mul (2 ^ k))

same : (k s : ℕ) → bit k s ≡ 0 → without_member k s ≡ s
unfolding without_member
same k s z = rw (z, zero-mul (2 ^ k)) (omega arith)

-- nothing is added
without-le : (k s : ℕ) → without_member k s ≤ s
unfolding without_member
without-le k s = omega arith

-- the digits
pub without-same : (k s : ℕ) → bit k (without_member k s) ≡ 0
without-same k s = ⊎_elim (λ (m : Member k s). rw (off k s m) (bit-out-same k s m)) (λ (z : bit k s ≡ 0). rw (same k s z) z) (mem-or k s)

without_other : (k j s : ℕ) → (j ≡ k → ⊥) → bit j (without_member k s) ≡ bit j s
without_other k j s n = ⊎_elim (λ (m : Member k s). rw (off k s m) (bit-out-other k j s n m)) (λ (z : bit k s ≡ 0). rw (same k s z)) (mem-or k s)

-- a set without k is smaller, and has all but k
pub without_in : (k j S : ℕ) → Member j (without_member k S) → Member j S × (j ≡ k → ⊥)
without_in k j S m = elim (ℕ_discrete j k) [
  | yes e ↦ absurd (not-mem (without-same k S) (rw e at m))
  | no n ↦ (sym (without_other k j S n) ∙ m, n)
]

pub in_without : (k j S : ℕ) → (j ≡ k → ⊥) → Member j S → Member j (without_member k S)
in_without k j S n m = without_other k j S n ∙ m

-- the word
module _ (k s : ℕ) (l : k < 64) (h : s < 2 ^ 64) where
  -- the mask lets every digit but that at k through
  masked : (j : ℕ) → j < 64 → bit j (bit_and s (2 ^ 64 - 1 - 2 ^ k)) ≡ min (bit j s) (1 - bit j (2 ^ k))
  masked j g = bit-and j s (2 ^ 64 - 1 - 2 ^ k) ∙ ap (min (bit j s)) (bit_not 64 j (2 ^ k) g (pow-lt l))

  -- past 64 there is none
  past : (j x : ℕ) → 64 ≤ j → x ≤ s → bit j x ≡ 0
  past j x g le = ⊎_elim (λ (m : Member j x). absurd (let z = mem-lt 64 j x (omega arith) m in omega arith)) (λ (z : bit j x ≡ 0). z) (mem-or j x)

  digit : (j : ℕ) → bit j (bit_and s (2 ^ 64 - 1 - 2 ^ k)) ≡ bit j (without_member k s)
  digit j = ⊎_elim here (λ (g : 64 ≤ j). past j _ g (and_le_l s (2 ^ 64 - 1 - 2 ^ k)) ∙ sym (past j _ g (without-le k s))) (lt-or-ge j 64)
    where
      here : j < 64 → bit j (bit_and s (2 ^ 64 - 1 - 2 ^ k)) ≡ bit j (without_member k s)
      here g = elim (ℕ_discrete j k) [
        | yes e ↦ rw e (omega (arith, masked k l, bit-pow-same k, without-same k s))
        | no n ↦ omega (arith, masked j g, bit-pow-other k j n, without_other k j s n, bit_le j s)
      ]

  pub without-and : bit_and s (2 ^ 64 - 1 - 2 ^ k) ≡ without_member k s
  without-and = same_bits _ _ digit

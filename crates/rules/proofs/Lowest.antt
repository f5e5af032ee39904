-- The greatest over a set, met from its lowest member up: it is the greater of the lowest member's value and the greatest of the rest.
use mathlib.Core.Path.{◌≡◌, sym, ◌∙◌}
use Prim.Native.Nat.{ℕ, ◌-◌, ◌^◌, ◌≤◌, ◌<◌, zero-le, max}
use native.Mathlib.Nat.{le_antisymm, le_trans, max-le, le-max_left, le-max_right}
use native.Mathlib.Decide.{ℕ_discrete}
use native.Mathlib.Omega.{arith}
use Rattle.sets.specs.Member.{Member}
use Rattle.sets.specs.Greatest.{greatest}
use Rattle.sets.proofs.Bits.{bit-zero, bit-out-same, bit-out-other, not-mem}
use Rattle.sets.proofs.Greatest.{greatest-le, le-greatest}

pub greatest-none : (d : ℕ) (f : ℕ → ℕ) → greatest d 0 f ≡ 0
greatest-none d f = le_antisymm (greatest-le d 0 f 0 (λ k l m. absurd (not-mem (bit-zero k) m))) zero-le

pub greatest-out : (d s p : ℕ) (f : ℕ → ℕ) → p < d → Member p s → greatest d s f ≡ max (f p) (greatest d (s - 2 ^ p) f)
greatest-out d s p f l m = le_antisymm (greatest-le d s f _ up) (max-le (le-greatest d s f p l m) (greatest-le d (s - 2 ^ p) f _ down))
  where
    up : (k : ℕ) → k < d → Member k s → f k ≤ max (f p) (greatest d (s - 2 ^ p) f)
    up k h n = elim (ℕ_discrete k p) [
      | yes e ↦ rw e (le-max_left (f p) (greatest d (s - 2 ^ p) f))
      | no e ↦ le_trans (le-greatest d (s - 2 ^ p) f k h (bit-out-other p k s e m ∙ n)) (le-max_right (f p) (greatest d (s - 2 ^ p) f))
    ]

    down : (k : ℕ) → k < d → Member k (s - 2 ^ p) → f k ≤ greatest d s f
    down k h n = elim (ℕ_discrete k p) [
      | yes e ↦ absurd (not-mem (bit-out-same p s m) (rw e at n))
      | no e ↦ le-greatest d s f k h (sym (bit-out-other p k s e m) ∙ n)
    ]

-- the greatest so far, and what is left of the set
pub record Left (d s : ℕ) (f : ℕ → ℕ) (latest left : ℕ) : Type 0 where
  pub below : left < 2 ^ d
  pub is : max latest (greatest d left f) ≡ greatest d s f

pub left-all : {d s : ℕ} {f : ℕ → ℕ} → s < 2 ^ d → Left d s f 0 s
left-all h = record { below = h; is = omega arith }

pub left_less : {d s latest left : ℕ} {f : ℕ → ℕ} → Left d s f latest left → (p next rest : ℕ) → p < d → Member p left → rest ≡ left - 2 ^ p → next ≡ max latest (f p) → Left d s f next rest
left_less {d} {left = left} {f = f} l p next rest h m e n =
    let out = greatest-out d left p f h m in
    record { below = (let b = l.below in omega arith); is = rw (e, n) (let i = l.is in omega arith) }

pub left-none : {d s latest left : ℕ} {f : ℕ → ℕ} → Left d s f latest left → left ≡ 0 → latest ≡ greatest d s f
left-none {d} {f = f} l z = let g = greatest-none d f in let i = rw z at l.is in omega arith

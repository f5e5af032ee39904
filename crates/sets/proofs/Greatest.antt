-- The greatest over a set: it is at least each member's value and at most any common bound, and these two fix it.
use mathlib.Core.Path.{◌≡◌, refl}
use mathlib.Core.Logic.{◌⊎◌, inl, inr, ⊎_elim}
use Prim.Native.Nat.{ℕ, zero, suc, ◌≤◌, ◌<◌, zero-le, max}
use native.Mathlib.Nat.{le_of_suc-le-suc, not-suc-le-zero, le_antisymm, le_trans, max-le, le-max_left, le-max_right, eq-or-lt_of_le, le_refl, max-zero}
use native.Mathlib.Omega.{arith}
use Rattle.plain.proofs.Lists.{lt-or-ge}
use Rattle.sets.specs.Member.{bit, Member}
use Rattle.sets.specs.Greatest.{kept, greatest}
use Rattle.sets.proofs.Bits.{bit_le, mem-or}

kept-le : (b x y : ℕ) → (b ≡ 1 → x ≤ y) → b ≤ 1 → kept b x ≤ y
kept-le zero x y h l = zero-le
kept-le (suc b) x y h l = h (omega arith)

kept-one : (b x : ℕ) → b ≡ 1 → kept b x ≡ x
kept-one b x e = rw e

pub greatest-le : (d s : ℕ) (f : ℕ → ℕ) (y : ℕ) → ((k : ℕ) → k < d → Member k s → f k ≤ y) → greatest d s f ≤ y
unfolding greatest
greatest-le zero s f y h = zero-le
greatest-le (suc d) s f y h =
    max-le (greatest-le d s f y (λ k l m. h k (omega arith) m)) (kept-le (bit d s) (f d) y (λ m. h d (omega arith) m) (bit_le d s))

pub le-greatest : (d s : ℕ) (f : ℕ → ℕ) (k : ℕ) → k < d → Member k s → f k ≤ greatest d s f
unfolding greatest
le-greatest zero s f k l m = absurd (not-suc-le-zero l)
le-greatest (suc d) s f k l m = ⊎_elim here (λ (lt : k < d). there (le-greatest d s f k lt m)) (eq-or-lt_of_le (le_of_suc-le-suc l))
  where
    here : k ≡ d → f k ≤ max (greatest d s f) (kept (bit d s) (f d))
    here e = rw (← e, kept-one (bit k s) (f k) m) (le-max_right (greatest k s f) (f k))

    there : f k ≤ greatest d s f → f k ≤ max (greatest d s f) (kept (bit d s) (f d))
    there ih = le_trans ih (le-max_left (greatest d s f) (kept (bit d s) (f d)))

-- two rules that agree at the members have one greatest
pub greatest-same : (d s : ℕ) (f g : ℕ → ℕ) → ((k : ℕ) → k < d → Member k s → f k ≡ g k) → greatest d s f ≡ greatest d s g
greatest-same d s f g h =
    le_antisymm
    (greatest-le d s f (greatest d s g) (λ k l m. rw (h k l m) (le-greatest d s g k l m)))
    (greatest-le d s g (greatest d s f) (λ k l m. rw (← (h k l m)) (le-greatest d s f k l m)))

-- the greatest is 0 or one of the values
pub greatest-is : (d s : ℕ) (f : ℕ → ℕ) → (greatest d s f ≡ 0) ⊎ ((k : ℕ) × (k < d) × Member k s × (greatest d s f ≡ f k))
unfolding greatest
greatest-is zero s f = inl refl
greatest-is (suc d) s f = go (greatest-is d s f) (mem-or d s)
  where
    Is : ℕ → Type 0
    Is g = (g ≡ 0) ⊎ ((k : ℕ) × (k < suc d) × Member k s × (g ≡ f k))

    old : (greatest d s f ≡ 0) ⊎ ((k : ℕ) × (k < d) × Member k s × (greatest d s f ≡ f k)) → Is (greatest d s f)
    old (inl z) = inl z
    old (inr w) = inr (w.0, (let h = w.1 in omega arith), w.2, w.3)

    go : (greatest d s f ≡ 0) ⊎ ((k : ℕ) × (k < d) × Member k s × (greatest d s f ≡ f k)) → (Member d s) ⊎ (bit d s ≡ 0) → Is (max (greatest d s f) (kept (bit d s) (f d)))
    go r (inr z) = rw (z, max-zero (greatest d s f)) (old r)
    go r (inl m) = ⊎_elim
        (λ (l : greatest d s f < f d). inr (d, le_refl (suc d), m, rw m (omega arith)))
        (λ (l : f d ≤ greatest d s f). let e : max (greatest d s f) (kept (bit d s) (f d)) ≡ greatest d s f = rw m (omega arith) in rw e (old r))
        (lt-or-ge (greatest d s f) (f d))

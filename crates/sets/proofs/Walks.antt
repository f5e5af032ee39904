-- The walk by trailing zeros: the number of trailing zeros is the lowest member, so taking it out and going on meets the members in their order.
use mathlib.Core.Path.{◌≡◌, refl, sym, ap, ◌∙◌}
use mathlib.Core.Logic.{⊎_elim}
use mathlib.Core.List.Memᴰ
use mathlib.Core.List.{[], ◌∷◌, ◌++◌, Memᴰ}
use Prim.Native.Nat.{ℕ, zero, suc, ◌-◌, ◌*◌, ◌/◌, ◌%◌, ◌^◌, ◌<◌, zero-le, suc-le-suc}
use native.Mathlib.Nat.{pow-suc, le_of_suc-le-suc, not-suc-le-zero, eq-or-lt_of_le, le_refl}
use native.Mathlib.Omega.{arith}
use lib.Bits.{bit_and, and_le_r}
use lib.Count.{count_trailing_zeros, under}
use Rattle.sets.specs.Member.{bit, Member}
use Rattle.sets.specs.Inner.Walk.{Walk}
use Rattle.sets.specs.Members.{only, members}
use Rattle.sets.proofs.Bits.{bit-zero, bit_le, bit-out-same, bit-out-other, not-mem, low_clear}

-- the lowest member
pub lowest-mem : (d s : ℕ) → 0 < s → s < 2 ^ d → Member (count_trailing_zeros d s) s
unfolding bit count_trailing_zeros
lowest-mem zero s h k = absurd (lt0 h k)
  where
    lt0 : 0 < s → s < 2 ^ 0 → ⊥
    lt0 a b = omega arith
lowest-mem (suc d) s h k = go (s % 2) refl (lowest-mem d (s / 2))
  where
    k2 : s < 2 ^ d * 2
    k2 = rw (pow-suc 2 d) at k

    go : (r : ℕ) → s % 2 ≡ r → (0 < s / 2 → s / 2 < 2 ^ d → bit (count_trailing_zeros d (s / 2)) (s / 2) ≡ 1) → bit (under r (count_trailing_zeros d (s / 2))) s ≡ 1
    go zero e ih = let k3 = k2 in ih (omega arith) (omega arith)
    go (suc r) e ih = omega arith

-- nothing below it
pub lowest-none : (d s k : ℕ) → k < count_trailing_zeros d s → bit k s ≡ 0
unfolding bit count_trailing_zeros
lowest-none zero s k h = absurd (not-suc-le-zero h)
lowest-none (suc d) s k h = go (s % 2) refl k h (lowest-none d (s / 2))
  where
    go : (r : ℕ) → s % 2 ≡ r → (k : ℕ) → k < under r (count_trailing_zeros d (s / 2)) → ((j : ℕ) → j < count_trailing_zeros d (s / 2) → bit j (s / 2) ≡ 0) → bit k s ≡ 0
    go zero e zero l ih = e
    go zero e (suc j) l ih = ih j (le_of_suc-le-suc l)
    go (suc r) e k l ih = absurd (not-suc-le-zero l)

pub lowest-lt : (d s : ℕ) → 0 < s → s < 2 ^ d → count_trailing_zeros d s < d
unfolding count_trailing_zeros
lowest-lt zero s h k = absurd (lt0 h k)
  where
    lt0 : 0 < s → s < 2 ^ 0 → ⊥
    lt0 a b = omega arith
lowest-lt (suc d) s h k = go (s % 2) refl (lowest-lt d (s / 2))
  where
    k2 : s < 2 ^ d * 2
    k2 = rw (pow-suc 2 d) at k

    go : (r : ℕ) → s % 2 ≡ r → (0 < s / 2 → s / 2 < 2 ^ d → count_trailing_zeros d (s / 2) < d) → under r (count_trailing_zeros d (s / 2)) < suc d
    go zero e ih = let k3 = k2 in suc-le-suc (ih (omega arith) (omega arith))
    go (suc r) e ih = suc-le-suc zero-le

-- what a walk by trailing zeros needs of a word that is not 0: the zeros are its first member, and `s & (s - 1)` has the others
pub walk : (s : ℕ) → (s ≡ 0 → ⊥) → s < 2 ^ 64 → Walk s (count_trailing_zeros 64 s) (bit_and s (s - 1))
walk s n h =
    let m = lowest-mem 64 s (omega arith) h in
    record {
      lt = lowest-lt 64 s (omega arith) h;
      mem = m;
      low = lowest-none 64 s;
      out = low_clear (count_trailing_zeros 64 s) s m (lowest-none 64 s);
      less = omega (arith, and_le_r s (s - 1));
    }

-- the walk by trailing zeros goes through the members in their order
members-none : (d s : ℕ) → ((k : ℕ) → k < d → bit k s ≡ 0) → members d s ≡ []
unfolding members
members-none zero s f = refl
members-none (suc d) s f = rw (f d (le_refl (suc d)), members-none d s (λ k h. f k (omega arith)))

pub no-members : (d : ℕ) → members d 0 ≡ []
no-members d = members-none d 0 (λ k h. bit-zero k)

pub members-out : (d s p : ℕ) → p < d → Member p s → ((k : ℕ) → k < p → bit k s ≡ 0) → members d s ≡ p ∷ members d (s - 2 ^ p)
unfolding members
members-out zero s p l m low = absurd (not-suc-le-zero l)
members-out (suc d) s p l m low = ⊎_elim here (λ (lt : p < d). there lt (members-out d s p lt m low)) (eq-or-lt_of_le (le_of_suc-le-suc l))
  where
    here : p ≡ d → members d s ++ only (bit d s) d ≡ p ∷ (members d (s - 2 ^ p) ++ only (bit d (s - 2 ^ p)) d)
    here e = rw (
      ← e,
      m,
      members-none p s low,
      bit-out-same p s m,
      members-none p (s - 2 ^ p) (λ k h. bit-out-other p k s (ne k h) m ∙ low k h),
    )
      where
        ne : (k : ℕ) → k < p → k ≡ p → ⊥
        ne k h q = omega arith

    there : p < d → members d s ≡ p ∷ members d (s - 2 ^ p) → members d s ++ only (bit d s) d ≡ p ∷ (members d (s - 2 ^ p) ++ only (bit d (s - 2 ^ p)) d)
    there lt ih = rw (ih, bit-out-other p d s (λ q. ne q) m)
      where
        ne : d ≡ p → ⊥
        ne q = omega arith

pub members-in : (d s k : ℕ) → k < d → Member k s → Memᴰ k (members d s)
unfolding members
members-in zero s k l m = absurd (not-suc-le-zero l)
members-in (suc d) s k l m = ⊎_elim
    (λ (e : k ≡ d). Memᴰ.append_right (members d s) (in-only (bit d s) (ap (λ (x : ℕ). bit x s) (sym e) ∙ m) e))
    (λ (lt : k < d). Memᴰ.append_left (only (bit d s) d) (members-in d s k lt m)) (eq-or-lt_of_le (le_of_suc-le-suc l))
  where
    in-only : (b : ℕ) → b ≡ 1 → k ≡ d → Memᴰ k (only b d)
    in-only zero e q = absurd (not-mem refl e)
    in-only (suc b) e q = Memᴰ.head q

pub members-mem : (d s k : ℕ) → Memᴰ k (members d s) → (k < d) × Member k s
unfolding members
members-mem zero s k m = absurd (Memᴰ.not-nil m)
members-mem (suc d) s k m = ⊎_elim (λ (x : Memᴰ k (members d s)). up (members-mem d s k x)) (λ (x : Memᴰ k (only (bit d s) d)). here (bit d s) refl x) (Memᴰ.append_cases (members d s) m)
  where
    up : (k < d) × Member k s → (k < suc d) × Member k s
    up w = (omega arith, w.1)

    here : (b : ℕ) → bit d s ≡ b → Memᴰ k (only b d) → (k < suc d) × Member k s
    here zero e x = absurd (Memᴰ.not-nil x)
    here (suc b) e x =
        let q = Memᴰ.eq_of_singleton x in
        let l = bit_le d s in
        (omega arith, ap (λ (y : ℕ). bit y s) q ∙ omega arith)

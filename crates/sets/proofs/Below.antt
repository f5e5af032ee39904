-- The members of a set below n, and the others: they are counted and listed in the order of their numbers, so those below n come first.
use Prim.Native.Nat.{ℕ, zero, suc, ◌^◌, ◌≤◌, ◌<◌}
use mathlib.Core.Path.{◌≡◌, sym, ap, ◌∙◌}
use mathlib.Core.Logic.{⊎_elim}
use mathlib.Core.List.{List, [], ◌∷◌, ◌++◌, append_assoc, append-nil}
use native.Mathlib.Nat.{le_refl, le_of_suc-le-suc, eq-or-lt_of_le}
use native.Mathlib.Omega.{arith}
use Rattle.plain.specs.Sums.{sum_to}
use Rattle.plain.proofs.Lists.{lt-or-ge}
use Rattle.plain.proofs.Sums.{sum-under}
use Rattle.sets.specs.Member.{bit, Member}
use Rattle.sets.specs.Members.{only, members}
use Rattle.sets.specs.Size.{size_to, size}
use Rattle.sets.specs.Rule.{set_of}
use Rattle.sets.proofs.Bits.{bit_le, mem-lt, mem-or, same_bits}
use Rattle.sets.proofs.Rule.{bit_past, bit-set, set-lt}

-- a set has the more members, the further one counts; and where it has no more than those below n, all are below n
pub size-grows : (n d w : ℕ) → n ≤ d → size_to n w ≤ size_to d w
unfolding size_to sum_to
size-grows n zero w h = let e : n ≡ 0 = omega arith in rw e (le_refl (size_to 0 w))
size-grows n (suc d) w h = ⊎_elim
    (λ (e : n ≡ suc d). rw e (le_refl (size_to (suc d) w)))
    (λ (l : n < suc d). omega (arith, size-grows n d w (le_of_suc-le-suc l)))
    (eq-or-lt_of_le h)

pub all-below : (n d w : ℕ) → size_to d w ≤ size_to n w → (k : ℕ) → k < d → Member k w → k < n
unfolding size_to
all-below n d w h k l m = ⊎_elim
    (λ (b : k < n). b)
    (λ (b : n ≤ k). absurd (omega (arith, h, m, size-grows n k w b, sum-under (λ (j : ℕ). bit j w) k d l)))
    (lt-or-ge k n)

-- the members from n on, of which none is below n
pub data From (n : ℕ) : List ℕ → Type 0 where
  none : From n []
  some : {q : ℕ} {qs : List ℕ} → n ≤ q → From n (q ∷ qs)

pub members-from : (n d w : ℕ) → n ≤ d → (rest : List ℕ) × (members d w ≡ members n w ++ rest) × From n rest
unfolding members
members-from n zero w h = let e : n ≡ 0 = omega arith in ([], rw (e, append-nil (members 0 w)), none)
members-from n (suc d) w h = ⊎_elim
    (λ (e : n ≡ suc d). ([], rw (e, append-nil (members (suc d) w)), none))
    (λ (l : n < suc d). more (le_of_suc-le-suc l) (members-from n d w (le_of_suc-le-suc l)))
    (eq-or-lt_of_le h)
  where
    more : n ≤ d → (rest : List ℕ) × (members d w ≡ members n w ++ rest) × From n rest → (rest : List ℕ) × (members d w ++ only (bit d w) d ≡ members n w ++ rest) × From n rest
    more l (rest, e, f) = (rest ++ only (bit d w) d, ap (λ (xs : List ℕ). xs ++ only (bit d w) d) e ∙ append_assoc (members n w) rest (only (bit d w) d), after f)
      where
        last : (b : ℕ) → From n (only b d)
        last zero = none
        last (suc b) = some l

        after : {rest : List ℕ} → From n rest → From n (rest ++ only (bit d w) d)
        after none = last (bit d w)
        after (some b) = some b

-- a word whose members are all below n is below 2 ^ n
pub word_below : (n w : ℕ) → w < 2 ^ 64 → size w ≤ size_to n w → w < 2 ^ n
word_below n w h s =
    let same : w ≡ set_of n (λ k. bit k w) = same_bits w _ λ k. ⊎_elim
    (λ (l : k < n). sym (bit-set (λ k. bit k w) (λ k. bit_le k w) n k l))
    (λ (l : n ≤ k). ⊎_elim (λ m. absurd (omega (arith, all-below n 64 w s k (mem-lt 64 k w h m) m))) (λ z. z) (mem-or k w) ∙ sym (bit_past (λ k. bit k w) (λ k. bit_le k w) n k l))
    (lt-or-ge k n) in
    rw same (set-lt (λ k. bit k w) (λ k. bit_le k w) n)

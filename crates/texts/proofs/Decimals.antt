-- A decimal's digits: the budget of 20 is never short for a 64-bit number, so that the code's recursion, which has no budget, writes
-- the same digits.
use mathlib.Core.Path.{◌≡◌, sym, ◌∙◌}
use mathlib.Core.Logic.{⊎_elim}
use mathlib.Core.List.{[], ◌∷◌, ◌++◌}
use Prim.Native.Nat.{ℕ, zero, suc, ◌+◌, ◌/◌, ◌%◌, ◌^◌, ◌≤◌, ◌<◌, zero-le}
use native.Mathlib.Nat.{pow-suc}
use native.Mathlib.Omega.{arith}
use borrow.Author.Tests.{lt-ltb, le-ltb}
use lib.ListN.{length, length-append}
use Rattle.plain.proofs.Lists.{lt-or-ge}
use Rattle.texts.specs.Decimal.{digits, decimal}

-- the two cases of a number's digits
digits-one : (k v : ℕ) → v < 10 → digits (suc k) v ≡ (48 + v) ∷ []
unfolding digits
digits-one k v h = simp (lt-ltb v 10 h)

digits_more : (k v : ℕ) → 10 ≤ v → digits (suc k) v ≡ digits k (v / 10) ++ ((48 + v % 10) ∷ [])
unfolding digits
digits_more k v h = simp (le-ltb v 10 h)

-- no more digits than the budget
digits-size : (k v : ℕ) → length (digits k v) ≤ k
unfolding digits
digits-size zero v = zero-le
digits-size (suc k) v = ⊎_elim
    (λ (h : v < 10). rw (digits-one k v h) (omega arith))
    (λ (h : 10 ≤ v). rw (digits_more k v h, length-append) (omega (arith, digits-size k (v / 10))))
    (lt-or-ge v 10)

-- a budget that is enough may be larger
digits-enough : (k v : ℕ) → v < 10 ^ suc k → digits (suc (suc k)) v ≡ digits (suc k) v
digits-enough zero v b = digits-one 1 v b ∙ sym (digits-one 0 v b)
digits-enough (suc k) v b = ⊎_elim
    (λ (h : v < 10). digits-one (suc (suc k)) v h ∙ sym (digits-one (suc k) v h))
    (λ (h : 10 ≤ v). let ih = digits-enough k (v / 10) (omega (arith, pow-suc 10 (suc k))) in rw (digits_more (suc (suc k)) v h, ih, digits_more (suc k) v h))
    (lt-or-ge v 10)

-- a decimal has at most 20 digits
pub decimal-size : (v : ℕ) → length (decimal v) ≤ 20
unfolding decimal
decimal-size v = digits-size 20 v

-- the two cases of a decimal, as the code has them
pub decimal-one : (v : ℕ) → v < 10 → decimal v ≡ (48 + v % 10) ∷ []
unfolding decimal
decimal-one v h = let digit : v % 10 ≡ v = omega arith in rw digit (digits-one 19 v h)

pub decimal-more : (v : ℕ) → 10 ≤ v → v < 2 ^ 64 → decimal v ≡ decimal (v / 10) ++ ((48 + v % 10) ∷ [])
unfolding decimal
decimal-more v h b = let ten = digits-enough 18 (v / 10) (omega arith) in rw (digits_more 19 v h, ten)

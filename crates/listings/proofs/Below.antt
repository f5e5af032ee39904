-- A list of nodes below n. Each was below n when it came, and so the list's set has no member from n on: as a word it is below 2 ^ n.
use Prim.Native.Nat.{ℕ, zero, suc, ◌^◌, ◌≤◌, ◌<◌}
use mathlib.Core.Path.{◌≡◌, refl, sym, ◌∙◌}
use mathlib.Core.Logic.{⊎_elim}
use mathlib.Core.Bool.{Bool, true, false}
use mathlib.Core.List.{List, [], ◌∷◌, ◌++◌}
use native.Mathlib.Nat.{eq-or-lt_of_le, zero-mul, add-zero}
use native.Mathlib.Omega.{arith}
use lib.Dec.{eqb}
use borrow.Author.Tests.{eqb-true}
use Rattle.plain.specs.Pick.{pick, one}
use Rattle.plain.proofs.Picks.{true-false}
use Rattle.sets.specs.Rule.{set_of}
use Rattle.sets.proofs.Rule.{set-lt}
use Rattle.tables.specs.Limits.{count_max}
use Rattle.listings.specs.Lists.{is_listed, list_set}
use Rattle.listings.proofs.Lists.{listed-behind, one-le}

-- only numbers below n are listed
pub Below : ℕ → List ℕ → Type 0
Below n given = (k : ℕ) → is_listed given k ≡ true → k < n

pub below_none : (n : ℕ) → Below n []
unfolding Below is_listed
below_none n k e = absurd (true-false e refl)

pub below_more : (n : ℕ) (given : List ℕ) (v : ℕ) → v < n → Below n given → Below n (given ++ v ∷ [])
unfolding Below
below_more n given v h b k e = by (is_listed given k) (eqb v k) refl refl (sym (listed-behind given v k) ∙ e)
  where
    by : (l q : Bool) → is_listed given k ≡ l → eqb v k ≡ q → pick (is_listed given k) true (eqb v k) ≡ true → k < n
    by true q x y z = b k x
    by false true x y z = let same = eqb-true v k y in omega arith
    by false false x y z = absurd (true-false z (rw (x, y)))

-- a set by a rule that says 0 from n on
set-cut : (f : ℕ → ℕ) (n d : ℕ) → n ≤ d → ((k : ℕ) → n ≤ k → f k ≡ 0) → set_of d f ≡ set_of n f
unfolding set_of
set-cut f n zero l z = let e : n ≡ 0 = omega arith in rw e
set-cut f n (suc d) l z = ⊎_elim
    (λ (e : n ≡ suc d). rw e)
    (λ (h : n < suc d). rw (z d (omega arith), zero-mul (2 ^ d), add-zero (set_of d f)) (set-cut f n d (omega arith) z))
    (eq-or-lt_of_le l)

pub set_below : (n : ℕ) (given : List ℕ) → n ≤ count_max → Below n given → list_set given < 2 ^ n
unfolding Below
set_below n given h b = rw (set-cut (λ k. one (is_listed given k)) n count_max h past) (set-lt (λ k. one (is_listed given k)) (λ k. one-le (is_listed given k)) n)
  where
    past : (k : ℕ) → n ≤ k → one (is_listed given k) ≡ 0
    past k l = by (is_listed given k) refl
      where
        by : (t : Bool) → is_listed given k ≡ t → one t ≡ 0
        by true e = absurd (omega (arith, b k e))
        by false e = refl

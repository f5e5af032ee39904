-- Counting no further than the cap changes no comparison with a number below it: what is cut off is past every such number, before and after.
use Prim.Native.Nat.{ℕ, ◌+◌, ◌*◌, ◌≤◌, ◌<◌}
use mathlib.Core.Path.{◌≡◌, refl, sym, ap, ◌∙◌}
use mathlib.Core.Logic.{◌⊎◌, inl, inr}
use mathlib.Core.Bool.{Bool, true, false, ◌&&◌}
use native.Mathlib.Omega.{arith}
use lib.Dec.{leb}
use borrow.Author.Tests.{leb-true, lt-ltb, le-ltb, le-leb, lt-leb}
use Rattle.plain.proofs.Lists.{lt-or-ge}
use Rattle.plain.proofs.Picks.{true-false}
use Rattle.graphwords.specs.Decimal.{is_digit}
use Rattle.graphwords.specs.Inner.Found.{cap, capped}

-- below the cap it is the number, from there on the cap
pub capped-below : (v : ℕ) → v < cap → capped v ≡ v
capped-below v h = rw (lt-ltb v cap h)

pub capped-past : (v : ℕ) → cap ≤ v → capped v ≡ cap
capped-past v h = rw (le-ltb v cap h)

pub capped-most : (v : ℕ) → capped v ≤ cap
capped-most v = by (lt-or-ge v cap)
  where
    by : (v < cap) ⊎ (cap ≤ v) → capped v ≤ cap
    by (inl h) = omega (arith, capped-below v h)
    by (inr h) = omega (arith, capped-past v h)

-- a digit more
pub capped-digit : (v d : ℕ) → capped (10 * capped v + d) ≡ capped (10 * v + d)
capped-digit v d = by (lt-or-ge v cap)
  where
    by : (v < cap) ⊎ (cap ≤ v) → capped (10 * capped v + d) ≡ capped (10 * v + d)
    by (inl h) = ap (λ (x : ℕ). capped (10 * x + d)) (capped-below v h)
    by (inr h) = ap (λ (x : ℕ). capped (10 * x + d)) (capped-past v h) ∙ capped-past (10 * cap + d) (omega arith) ∙ sym (capped-past (10 * v + d) (omega arith))

-- no comparison with a limit below the cap changes
pub capped-high : (v high : ℕ) → high < cap → leb (capped v) high ≡ leb v high
capped-high v high l = by (lt-or-ge v cap)
  where
    by : (v < cap) ⊎ (cap ≤ v) → leb (capped v) high ≡ leb v high
    by (inl h) = ap (λ (x : ℕ). leb x high) (capped-below v h)
    by (inr h) = lt-leb (capped v) high (omega (arith, capped-past v h, l)) ∙ sym (lt-leb v high (omega (arith, h, l)))

pub capped-low : (v low : ℕ) → low < cap → leb low (capped v) ≡ leb low v
capped-low v low l = by (lt-or-ge v cap)
  where
    by : (v < cap) ⊎ (cap ≤ v) → leb low (capped v) ≡ leb low v
    by (inl h) = ap (leb low) (capped-below v h)
    by (inr h) = le-leb low (capped v) (omega (arith, capped-past v h, l)) ∙ sym (le-leb low v (omega (arith, h, l)))

-- a digit is at least 48
pub digit_low : (d : ℕ) → is_digit d ≡ true → 48 ≤ d
digit_low d e = by (leb 48 d) refl e
  where
    by : (t : Bool) → leb 48 d ≡ t → (t && leb d 57) ≡ true → 48 ≤ d
    by true q e = leb-true 48 d q
    by false q e = absurd (true-false e refl)

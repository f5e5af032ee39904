-- The smallest number of which a test holds: the one below n − 1 where there is one, and else n − 1, of which it then holds.
use mathlib.Core.Path.{◌≡◌, refl}
use mathlib.Core.Bool.{Bool, true, false, false≢true, ◌||◌}
use Prim.Native.Nat.{ℕ, zero, suc, ◌<◌}
use native.Mathlib.Nat.{le_refl}
use native.Mathlib.Omega.{arith}
use Rattle.plain.specs.Pick.{pick}
use Rattle.plain.proofs.Lists.{one-least}
use Rattle.plain.proofs.Picks.{true-false}
use Rattle.ways.specs.Closure.{some}
use Rattle.ways.proofs.Closure.{some_in}
use Rattle.rings.specs.Ring.{smallest}

-- v is it
pub record First (n : ℕ) (f : ℕ → Bool) (v : ℕ) : Type 0 where
  pub within : v < n
  pub here : f v ≡ true
  pub before : (w : ℕ) → w < v → f w ≡ true → ⊥

-- the definition gives it
pub smallest-first : (n : ℕ) (f : ℕ → Bool) → some n f ≡ true → First n f (smallest n f)
unfolding some smallest
smallest-first zero f e = absurd (false≢true e)
smallest-first (suc n) f e = go (some n f) refl e (smallest-first n f)
  where
    go : (t : Bool) → some n f ≡ t → (t || f n) ≡ true → (some n f ≡ true → First n f (smallest n f)) → First (suc n) f (pick t (smallest n f) n)
    go true s e ih = let w = ih s in record { within = omega (arith, w.within); here = w.here; before = w.before }
    go false s e ih = record { within = le_refl (suc n); here = e; before = λ w l h. true-false (some_in n f w l h) s }

-- and there is one alone
pub one-first : {n : ℕ} {f : ℕ → Bool} {v w : ℕ} → First n f v → First n f w → v ≡ w
one-first {f = f} {v = v} {w = w} a b = one-least (λ (u : ℕ). f u ≡ true) v w a.here a.before b.here b.before

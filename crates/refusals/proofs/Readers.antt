-- The reader's own numbers are above 0, so that none of its refusals is told as an acceptance, none is above 21, and none is 10: a test that computes over the whole
-- list holds of each of its numbers.
use mathlib.Core.Path.{◌≡◌, refl, ap, ◌∙◌}
use mathlib.Core.Bool.{Bool, true, false, not, ◌&&◌, ◌||◌}
use mathlib.Core.List.{List, [], ◌∷◌}
use Prim.Native.Nat.{ℕ, ◌≤◌}
use native.Mathlib.Omega.{arith}
use borrow.Author.Tests.{eqb-true, leb-true}
use lib.Dec.{eqb, leb}
use Rattle.refusals.specs.Numbers.{loop, none_runs}
use Rattle.refusals.specs.Readers.{readers, is_in, is_readers}

-- the test holds of every number of the list
unfoldable every : (ℕ → Bool) → List ℕ → Bool
every f [] = true
every f (n ∷ ns) = f n && every f ns

-- no test both holds and fails
true-false : {b : Bool} → b ≡ true → b ≡ false → ⊥
true-false p q = let e : ◌≡◌ {A = ℕ} 1 0 = cc in omega arith

-- then it holds of each
each : (f : ℕ → Bool) (l : List ℕ) (n : ℕ) → every f l ≡ true → is_in n l ≡ true → f n ≡ true
unfolding every is_in
each f [] n a i = absurd (true-false i refl)
each f (m ∷ ms) n a i = by (f m) (eqb n m) refl refl a i (each f ms n)
  where
    by : (t e : Bool) → f m ≡ t → eqb n m ≡ e → (t && every f ms) ≡ true → (e || is_in n ms) ≡ true → (every f ms ≡ true → is_in n ms ≡ true → f n ≡ true) → f n ≡ true
    by false e p q b j later = absurd (true-false b refl)
    by true true p q b j later = ap f (eqb-true n m q) ∙ p
    by true false p q b j later = later b j

-- 10 is not among them
pub readers-not-loop : (n : ℕ) → is_readers n ≡ true → n ≡ loop → ⊥
unfolding every
readers-not-loop n e q = true-false (each (λ m. not (eqb m loop)) readers n refl e) (rw q)

-- nor is 0
pub readers-low : (n : ℕ) → is_readers n ≡ true → 1 ≤ n
unfolding every
readers-low n e = leb-true 1 n (each (leb 1) readers n refl e)

-- and 21 is the last
pub readers-high : (n : ℕ) → is_readers n ≡ true → n ≤ none_runs
unfolding every
readers-high n e = leb-true n none_runs (each (λ m. leb m none_runs) readers n refl e)

-- The smallest deadline numerator: of two that are there it is the lesser, so that it is one of them, and none of them is below it. A density falls
-- where a deadline grows, so that the densities of one execution over some deadlines are greatest at the smallest one.
use mathlib.Core.Path.{◌≡◌, refl, ◌∙◌}
use mathlib.Core.Logic.{◌⊎◌, inl, inr, ⊎_elim}
use Prim.Native.Nat.{ℕ, zero, suc, ◌+◌, ◌*◌, ◌≤◌, ◌<◌, max, min}
use native.Mathlib.Nat.{mul-le-mul_left, mul-le-mul_right, le_of_mul-le-mul_right, min-eq_left, min-eq_right, le_of_lt, le_of_suc-le-suc, not-suc-le-zero, eq-or-lt_of_le}
use native.Mathlib.Numerals.{add-one}
use native.Mathlib.Omega.{arith}
use lib.Dec.{eqb}
use borrow.Author.Tests.{eqb-true, eqb-false}
use Rattle.plain.specs.Sums.{max_to}
use Rattle.plain.proofs.Lists.{lt-or-ge}
use Rattle.plain.proofs.Picks.{pick-case}
use Rattle.shares.specs.Density.{millionths}
use Rattle.shares.specs.Figures.{smaller, smallest_to}
use Rattle.shares.proofs.Products.{sort}
use Rattle.shares.proofs.Densities.{undivided, enough, least}

-- the three cases of two numerators: either is none, or both are there
pub data Smaller (a b : ℕ) : ℕ → Type 0 where
  second : a ≡ 0 → Smaller a b b
  first : 0 < a → b ≡ 0 → Smaller a b a
  lesser : 0 < a → 0 < b → Smaller a b (min a b)

pub smaller-cases : (a b : ℕ) → Smaller a b (smaller a b)
unfolding smaller
smaller-cases a b =
    pick-case (Smaller a b) (eqb a 0)
    (λ e. second (eqb-true a 0 e))
    (λ e. pick-case (Smaller a b) (eqb b 0)
    (λ f. first (some (eqb-false a 0 e)) (eqb-true b 0 f))
    (λ f. lesser (some (eqb-false a 0 e)) (some (eqb-false b 0 f))))
  where
    some : {x : ℕ} → (x ≡ 0 → ⊥) → 0 < x
    some n = omega arith

-- no numerator, and one more as a loop's counter has it
pub smallest-none : (f : ℕ → ℕ) → smallest_to 0 f ≡ 0
unfolding smallest_to
smallest-none f = refl

pub smallest-more : (n : ℕ) (f : ℕ → ℕ) → smallest_to (n + 1) f ≡ smaller (smallest_to n f) (f n)
unfolding smallest_to
smallest-more n f = rw add-one

-- equal numerators, equal smallest ones
pub smallest-same : (n : ℕ) (f g : ℕ → ℕ) → ((k : ℕ) → k < n → f k ≡ g k) → smallest_to n f ≡ smallest_to n g
unfolding smallest_to
smallest-same zero f g e = refl
smallest-same (suc n) f g e = rw (smallest-same n f g (λ k h. e k (omega arith)), e n (omega arith))

-- it is none, or one of them
pub smallest-is : (n : ℕ) (f : ℕ → ℕ) → (smallest_to n f ≡ 0) ⊎ ((v : ℕ) × (v < n) × (0 < f v) × (smallest_to n f ≡ f v))
unfolding smallest_to
smallest-is zero f = inl refl
smallest-is (suc n) f = go (smaller-cases (smallest_to n f) (f n)) (smallest-is n f)
  where
    go : {m : ℕ} → Smaller (smallest_to n f) (f n) m → (smallest_to n f ≡ 0) ⊎ ((v : ℕ) × (v < n) × (0 < f v) × (smallest_to n f ≡ f v)) → (m ≡ 0) ⊎ ((v : ℕ) × (v < suc n) × (0 < f v) × (m ≡ f v))
    go (second z) r = ⊎_elim (λ (l : 0 < f n). inr (n, omega arith, l, refl)) (λ (l : f n ≤ 0). inl (omega arith)) (lt-or-ge 0 (f n))
    go (first l z) (inl e) = absurd (omega arith)
    go (first l z) (inr w) = inr (w.0, (let h = w.1 in omega arith), w.2, w.3)
    go (lesser l k) (inl e) = absurd (omega arith)
    go (lesser l k) (inr w) = ⊎_elim
        (λ (h : smallest_to n f < f n). inr (w.0, (let u = w.1 in omega arith), w.2, (let e = w.3 in omega arith)))
        (λ (h : f n ≤ smallest_to n f). inr (n, omega arith, k, omega arith))
        (lt-or-ge (smallest_to n f) (f n))

-- where one is there, so is the smallest, and it is no more than that one
pub smallest-le : (n : ℕ) (f : ℕ → ℕ) (v : ℕ) → v < n → 0 < f v → (0 < smallest_to n f) × (smallest_to n f ≤ f v)
unfolding smallest_to
smallest-le zero f v h l = absurd (not-suc-le-zero h)
smallest-le (suc n) f v h l = go (smaller-cases (smallest_to n f) (f n)) (⊎_elim (λ (e : v ≡ n). inl e) (λ (k : v < n). inr (smallest-le n f v k l)) (eq-or-lt_of_le (le_of_suc-le-suc h)))
  where
    go : {m : ℕ} → Smaller (smallest_to n f) (f n) m → (v ≡ n) ⊎ ((0 < smallest_to n f) × (smallest_to n f ≤ f v)) → (0 < m) × (m ≤ f v)
    go (second z) (inl e) = rw (← e) (l, omega arith)
    go (second z) (inr k) = absurd (omega arith)
    go (first p z) (inl e) = absurd (let k : 0 < f n = rw e at l in omega arith)
    go (first p z) (inr k) = k
    go (lesser p q) (inl e) = rw e (omega arith, omega arith)
    go (lesser p q) (inr k) = (omega arith, omega arith)

-- the density of x over a / p is no less than that over b / q, where a / p is no longer
pub falls : (x p a q b : ℕ) → 0 < p → 0 < a → a * q ≤ b * p → millionths x q b ≤ millionths x p a
falls x p a q b l some h =
    let r = millionths x p a in
    let u = mul-le-mul_left q (enough x p a some) in
    let w = mul-le-mul_left r h in
    least x q b r (le_of_mul-le-mul_right {k = p} (simp sort (omega (arith, simp sort at u, simp sort at w))) l)

-- so the density over the smaller of two numerators is the greater one
pub smaller-density : (x q a b : ℕ) → 0 < q → millionths x q (smaller a b) ≡ max (millionths x q a) (millionths x q b)
smaller-density x q a b some = go (smaller-cases a b)
  where
    go : {m : ℕ} → Smaller a b m → millionths x q m ≡ max (millionths x q a) (millionths x q b)
    go (second z) = let e = undivided x q a z in omega arith
    go (first l z) = let e = undivided x q b z in omega arith
    go (lesser l k) = ⊎_elim
        (λ (h : a < b). rw (min-eq_left (le_of_lt h)) (let e = falls x q a q b some l (mul-le-mul_right q (le_of_lt h)) in omega arith))
        (λ (h : b ≤ a). rw (min-eq_right h) (let e = falls x q b q a some k (mul-le-mul_right q h) in omega arith))
        (lt-or-ge a b)

-- and over the smallest of all the greatest
pub smallest-density : (x q n : ℕ) (f : ℕ → ℕ) → 0 < q → millionths x q (smallest_to n f) ≡ max_to n (λ v. millionths x q (f v))
unfolding smallest_to max_to
smallest-density x q zero f some = undivided x q 0 refl
smallest-density x q (suc n) f some = smaller-density x q (smallest_to n f) (f n) some ∙ rw (smallest-density x q n f some)

-- The rounded inequality and the exact one: a fraction is at most its millionths rounded up, and less than one millionth below them. Both are
-- kept by sums, multiples and the larger of two, so that the left side of the verdict is at most what it was rounded to, and for N fractions
-- and m cores less than N + m − 1 millionths below it; with the overhead, m more.
use mathlib.Core.Path.{◌≡◌, ap}
use mathlib.Core.Logic.{⊎_elim}
use mathlib.Core.List.{List, [], ◌∷◌, ◌++◌}
use Prim.Native.Nat.{ℕ, ◌+◌, ◌*◌, ◌-◌, ◌≤◌, ◌<◌, max}
use native.Mathlib.Nat.{mul_assoc, mul_comm, mul_left_comm, mul-add, add-mul, mul-le-mul_left, mul-le-mul_right, mul-pos, le_of_lt, le_trans, le-max_left, le-max_right, max-eq_left, max-eq_right, le_of_mul-le-mul_right, sub-add_cancel}
use native.Mathlib.Numerals.{one-add}
use native.Mathlib.Omega.{arith}
use lib.Dec.{leb}
use lib.ListN.{length}
use borrow.Author.Tests.{leb-true, leb-false}
use Rattle.plain.proofs.Lists.{lt-or-ge}
use Rattle.tables.specs.Limits.{million}
use Rattle.boards.specs.Fractions.{Fraction, whole, ◌plus◌, AtMost, times, larger, total, largest, exact_left, ExactYes, exact_left_to_end, ExactYesToEnd}
use Rattle.plain.proofs.Picks.{pick-case}

ruleset sort = (mul-add, add-mul, mul_assoc, mul_comm, mul_left_comm)

-- r is x in millionths, rounded up: enough, and by less than one millionth too much
pub record RoundedUp (x : Fraction) (r : ℕ) : Type 0 where
  pub proper : 0 < x.lower
  pub enough : x.upper * million ≤ r * x.lower
  pub near : r * x.lower < x.upper * million + x.lower

-- S and M: the sum and the largest of what the fractions xs are rounded up to
pub data Rounded : List Fraction → ℕ → ℕ → Type 0 where
  none : Rounded [] 0 0
  more : {x : Fraction} {r : ℕ} {xs : List Fraction} {s l : ℕ} → RoundedUp x r → Rounded xs s l → Rounded (x ∷ xs) (r + s) (max r l)

-- sums that are equal
pub rounded-as : {xs : List Fraction} {s l t k : ℕ} → Rounded xs s l → s ≡ t → l ≡ k → Rounded xs t k
rounded-as p e f = rw (← e, ← f) p

-- two lists, one after the other
pub rounded-append : {xs ys : List Fraction} {s l t k : ℕ} → Rounded xs s l → Rounded ys t k → Rounded (xs ++ ys) (s + t) (max l k)
rounded-append none q = rounded-as q (omega arith) (omega arith)
rounded-append (more u p) q = rounded-as (more u (rounded-append p q)) (omega arith) (omega arith)

-- at most so many millionths; and so many are at most k too many
abbrev Below : Fraction → ℕ → Type 0
Below x r = x.upper * million ≤ r * x.lower

abbrev Near : Fraction → ℕ → ℕ → Type 0
Near x r k = r * x.lower ≤ x.upper * million + k * x.lower

-- both are kept by a sum
below-plus : (x y : Fraction) (r s : ℕ) → Below x r → Below y s → Below (x plus y) (r + s)
below-plus x y r s a b =
    let p = mul-le-mul_right y.lower a in
    let q = mul-le-mul_right x.lower b in
    simp sort (omega (arith, simp sort at p, simp sort at q))

near-plus : (x y : Fraction) (r s k l : ℕ) → Near x r k → Near y s l → Near (x plus y) (r + s) (k + l)
near-plus x y r s k l a b =
    let p = mul-le-mul_right y.lower a in
    let q = mul-le-mul_right x.lower b in
    simp sort (omega (arith, simp sort at p, simp sort at q))

-- by a multiple
below-times : (n : ℕ) (x : Fraction) (r : ℕ) → Below x r → Below (times n x) (n * r)
below-times n x r a = simp sort (omega (arith, simp sort at (mul-le-mul_left n a)))

near_times : (n : ℕ) (x : Fraction) (r k : ℕ) → Near x r k → Near (times n x) (n * r) (n * k)
near_times n x r k a = simp sort (omega (arith, simp sort at (mul-le-mul_left n a)))

-- by the larger of two
below-larger : (x y : Fraction) (r s : ℕ) → Below x r → Below y s → Below (larger x y) (max r s)
below-larger x y r s a b =
    pick-case (λ z. Below z (max r s)) (leb (x.upper * y.lower) (y.upper * x.lower))
    (λ e. le_trans b (mul-le-mul_right y.lower (le-max_right r s)))
    (λ e. le_trans a (mul-le-mul_right x.lower (le-max_left r s)))

near_up : (x y : Fraction) (r k : ℕ) → 0 < x.lower → Near x r k → AtMost x y → Near y r k
near_up x y r k p n l =
    let a = mul-le-mul_left y.lower n in
    let b = mul-le-mul_left million l in
    le_of_mul-le-mul_right {k = x.lower} (simp sort (omega (arith, simp sort at a, simp sort at b))) p

near-max : (y : Fraction) (r s k : ℕ) → Near y r k → Near y s k → Near y (max r s) k
near-max y r s k a b = ⊎_elim (λ (l : r < s). rw (max-eq_right (le_of_lt l)) b) (λ (l : s ≤ r). rw (max-eq_left l) a) (lt-or-ge r s)

near-larger : (x y : Fraction) (r s k : ℕ) → 0 < x.lower → 0 < y.lower → Near x r k → Near y s k → Near (larger x y) (max r s) k
near-larger x y r s k p q a b =
    pick-case (λ z. Near z (max r s) k) (leb (x.upper * y.lower) (y.upper * x.lower))
    (λ e. near-max y r s k (near_up x y r k p a (leb-true _ _ e)) b)
    (λ e. near-max x r s k a (near_up y x s k q b (le_of_lt (leb-false _ _ e))))

-- so by the sum and the largest of a list
record Bounds (xs : List Fraction) (s l : ℕ) : Type 0 where
  total-low : 0 < (total xs).lower
  largest-low : 0 < (largest xs).lower
  total-below : Below (total xs) s
  largest-below : Below (largest xs) l
  total-near : Near (total xs) s (length xs)
  largest-near : Near (largest xs) l 1

bounds_of : {xs : List Fraction} {s l : ℕ} → Rounded xs s l → Bounds xs s l
unfolding total largest
bounds_of none = record {
  total-low = omega arith;
  largest-low = omega arith;
  total-below = omega arith;
  largest-below = omega arith;
  total-near = omega arith;
  largest-near = omega arith;
}
bounds_of (more {x} {r} {xs} {s} {l} u p) =
    let w = bounds_of p in
    let n : Near x r 1 = omega (arith, u.near) in
    record {
      total-low = mul-pos u.proper w.total-low;
      largest-low = pick-case (λ (z : Fraction). 0 < z.lower) (leb (x.upper * (largest xs).lower) ((largest xs).upper * x.lower)) (λ e. w.largest-low) (λ e. u.proper);
      total-below = below-plus x (total xs) r s u.enough w.total-below;
      largest-below = below-larger x (largest xs) r l u.enough w.largest-below;
      total-near = rw (← (one-add (length xs))) (near-plus x (total xs) r s 1 (length xs) n w.total-near);
      largest-near = near-larger x (largest xs) r l 1 u.proper w.largest-low n w.largest-near;
    }

-- so by the left side of a verdict, and by that with the overhead
module _ {xs : List Fraction} {s l : ℕ} (m : ℕ) (p : Rounded xs s l) where
  left-low : 0 < (exact_left m xs).lower
  left-low = let w = bounds_of p in mul-pos w.total-low w.largest-low

  left_below : Below (exact_left m xs) (s + (m - 1) * l)
  left_below = let w = bounds_of p in below-plus (total xs) (times (m - 1) (largest xs)) s ((m - 1) * l) w.total-below (below-times (m - 1) (largest xs) l w.largest-below)

  left_near : Near (exact_left m xs) (s + (m - 1) * l) (length xs + (m - 1) * 1)
  left_near = let w = bounds_of p in near-plus (total xs) (times (m - 1) (largest xs)) s ((m - 1) * l) (length xs) ((m - 1) * 1) w.total-near (near_times (m - 1) (largest xs) l 1 w.largest-near)

  module _ {r : Fraction} {o : ℕ} (u : RoundedUp r o) where
    to-end-low : 0 < (exact_left_to_end m xs r).lower
    to-end-low = mul-pos left-low u.proper

    to-end-below : Below (exact_left_to_end m xs r) (s + (m - 1) * l + m * o)
    to-end-below = below-plus (exact_left m xs) (times m r) (s + (m - 1) * l) (m * o) left_below (below-times m r o u.enough)

    to-end-near : Near (exact_left_to_end m xs r) (s + (m - 1) * l + m * o) (length xs + (m - 1) * 1 + m * 1)
    to-end-near = near-plus (exact_left m xs) (times m r) (s + (m - 1) * l) (m * o) (length xs + (m - 1) * 1) (m * 1) left_near (near_times m r o 1 (omega (arith, u.near)))

-- what is at most m millions of millionths is at most m; and what is at most k millionths too much is at most m millions where k were left over
below-yes : (m : ℕ) (x : Fraction) (z : ℕ) → Below x z → z ≤ m * million → AtMost x (whole m)
below-yes m x z b y = last x.upper x.lower (le_trans b (mul-le-mul_right x.lower y))
  where
    last : (u d : ℕ) → u * million ≤ m * million * d → u * 1 ≤ m * d
    last u d c = omega (arith, simp sort at c)

near-yes : (n : ℕ) (x : Fraction) (z k j : ℕ) → 0 < x.lower → k ≡ j → j ≤ n → Near x z k → AtMost (times million x) (whole (n - j)) → z ≤ n
near-yes n x z k j p e room b a =
    let same : (n - j + j) * x.lower ≡ n * x.lower = ap (λ (y : ℕ). y * x.lower) (sub-add_cancel room) in
    let c : Near x z j = rw e at b in
    le_of_mul-le-mul_right {k = x.lower} (omega (arith, rw add-mul at same)) p

module _ {xs : List Fraction} {s l : ℕ} (m : ℕ) (p : Rounded xs s l) where
  -- "A yes must imply the same inequality on the unrounded fractions"
  pub yes-exact : s + (m - 1) * l ≤ m * million → ExactYes m xs
  yes-exact y = below-yes m (exact_left m xs) (s + (m - 1) * l) (left_below m p) y

  -- "if the unrounded left side in millionths is at most m × 1,000,000 − (N + m − 1), the verdict is yes"
  pub exact-yes : 1 ≤ m → length xs + m - 1 ≤ m * million → AtMost (times million (exact_left m xs)) (whole (m * million - (length xs + m - 1))) → s + (m - 1) * l ≤ m * million
  exact-yes one room a = near-yes (m * million) (exact_left m xs) (s + (m - 1) * l) (length xs + (m - 1) * 1) (length xs + m - 1) (left-low m p) (omega arith) room (left_near m p) a

  -- the same with the overhead, which may be one millionth too much for each core
  pub yes-exact-to-end : {r : Fraction} {o : ℕ} → RoundedUp r o → s + (m - 1) * l + m * o ≤ m * million → ExactYesToEnd m xs r
  yes-exact-to-end {r} {o} u y = below-yes m (exact_left_to_end m xs r) (s + (m - 1) * l + m * o) (to-end-below m p u) y

  pub exact-yes-to-end : {r : Fraction} {o : ℕ} → RoundedUp r o → 1 ≤ m → length xs + m - 1 + m ≤ m * million
      → AtMost (times million (exact_left_to_end m xs r)) (whole (m * million - (length xs + m - 1 + m))) → s + (m - 1) * l + m * o ≤ m * million
  exact-yes-to-end {r} {o} u one room a =
      near-yes (m * million) (exact_left_to_end m xs r) (s + (m - 1) * l + m * o) (length xs + (m - 1) * 1 + m * 1) (length xs + m - 1 + m) (to-end-low m p u) (omega arith) room (to-end-near m p u) a

-- The overhead r: a quotient falls where its deadline grows, so that over the shortest of some deadlines it is the greatest of all. On a sound board
-- each row's quotient fits, and none is above twice the longest execution, because a standing row's Q is at most twice its shortest deadline.
use mathlib.Core.Path.{◌≡◌, refl, ◌∙◌}
use mathlib.Core.List.{List, [], ◌∷◌, ◌++◌}
use Prim.Native.Nat.{ℕ, zero, suc, ◌+◌, ◌*◌, ◌^◌, ◌≤◌, ◌<◌, max, zero-le}
use native.Mathlib.Nat.{le_refl, le_trans, le_of_lt, lt_of_le_of_lt, mul-le-mul, mul-le-mul_left}
use native.Mathlib.Omega.{arith}
use lib.Dec.{eqb, leb, lit<}
use borrow.Author.Tests.{eqb-true, eqb-false, leb-true, leb-false}
use Rattle.plain.specs.Sums.{max_to}
use Rattle.plain.proofs.Picks.{pick-case}
use Rattle.plain.proofs.Sums.{max_to-le}
use Rattle.tables.specs.Limits.{period_max, count_max, run_max, density_max}
use Rattle.shares.specs.Density.{millionths}
use Rattle.shares.specs.Inner.Asked.{DensityIn}
use Rattle.shares.proofs.Densities.{undivided, least}
use Rattle.shares.proofs.Smallest.{falls}
use Rattle.boards.specs.declared.Row.{Row}
use Rattle.boards.specs.Row.{rows_max, row_at}
use Rattle.boards.specs.Sound.{Sound}
use Rattle.boards.specs.Verdict.{longest_of, cores_max}
use Rattle.boards.specs.Fractions.{Fraction, shorter, shortest}
use Rattle.boards.specs.Nodes.{listed}
use Rattle.overheads.specs.ToEnd.{deadline_in, shortest_of, overhead_of}
use Rattle.boards.proofs.Sound.{each_row}

-- the greatest overhead: the longest execution over half a time unit
abbrev pub overhead_max : ℕ
overhead_max = run_max * density_max

-- a deadline that is there is a fraction
abbrev pub Timed : Fraction → Type 0
Timed d = 0 < d.upper → 0 < d.lower

-- the execution x over a deadline, in millionths rounded up
abbrev pub quotient : ℕ → Fraction → ℕ
quotient x d = millionths x d.lower d.upper

-- of two deadlines the shorter has the greater quotient
timed-shorter : (d e : Fraction) → Timed d → Timed e → Timed (shorter d e)
timed-shorter d e p q =
    pick-case Timed (eqb d.upper 0) (λ z. q)
    (λ z. pick-case Timed (eqb e.upper 0) (λ w. p)
    (λ w. pick-case Timed (leb (d.upper * e.lower) (e.upper * d.lower)) (λ l. p) (λ l. q)))

quotient-shorter : (x : ℕ) (d e : Fraction) → Timed d → Timed e → quotient x (shorter d e) ≡ max (quotient x d) (quotient x e)
quotient-shorter x d e p q =
    pick-case Is (eqb d.upper 0)
    (λ z. let a = undivided x d.lower d.upper (eqb-true d.upper 0 z) in omega arith)
    (λ z. let d-some = some (eqb-false d.upper 0 z) in
    pick-case Is (eqb e.upper 0)
    (λ w. let a = undivided x e.lower e.upper (eqb-true e.upper 0 w) in omega arith)
    (λ w. let e-some = some (eqb-false e.upper 0 w) in
    pick-case Is (leb (d.upper * e.lower) (e.upper * d.lower))
    (λ l. let a = falls x d.lower d.upper e.lower e.upper (p d-some) d-some (leb-true _ _ l) in omega arith)
    (λ l. let a = falls x e.lower e.upper d.lower d.upper (q e-some) e-some (le_of_lt (leb-false _ _ l)) in omega arith)))
  where
    Is : Fraction → Type 0
    Is f = quotient x f ≡ max (quotient x d) (quotient x e)

    some : {u : ℕ} → (u ≡ 0 → ⊥) → 0 < u
    some n = omega arith

-- r: the greatest quotient of x over the deadlines of a list
pub data Greatest (x : ℕ) : List Fraction → ℕ → Type 0 where
  none : Greatest x [] 0
  more : {d : Fraction} {ds : List Fraction} {r : ℕ} → Timed d → Greatest x ds r → Greatest x (d ∷ ds) (max (quotient x d) r)

-- two lists, one after the other, and a list by number
pub greatest-as : {x : ℕ} {ds : List Fraction} {r s : ℕ} → Greatest x ds r → r ≡ s → Greatest x ds s
greatest-as g e = rw (← e) g

pub greatest-append : {x : ℕ} {ds es : List Fraction} {r s : ℕ} → Greatest x ds r → Greatest x es s → Greatest x (ds ++ es) (max r s)
greatest-append none h = greatest-as h (omega arith)
greatest-append (more t g) h = greatest-as (more t (greatest-append g h)) (omega arith)

pub greatest-listed : (x n : ℕ) (d : ℕ → Fraction) → ((v : ℕ) → v < n → Timed (d v)) → Greatest x (listed n d) (max_to n (λ v. quotient x (d v)))
unfolding listed max_to
greatest-listed x zero d t = none
greatest-listed x (suc n) d t = greatest-as (greatest-append (greatest-listed x n d (λ v h. t v (omega arith))) (more (t n (le_refl (suc n))) none)) (omega arith)

-- it is the quotient over the shortest
pub greatest-shortest : {x : ℕ} {ds : List Fraction} {r : ℕ} → Greatest x ds r → Timed (shortest ds) × (quotient x (shortest ds) ≡ r)
unfolding shortest
greatest-shortest {x} none = (λ l. omega arith, undivided x 1 0 refl)
greatest-shortest {x} (more {d} {ds} t g) =
    let ih = greatest-shortest g in
    (timed-shorter d (shortest ds) t ih.0, quotient-shorter x d (shortest ds) t ih.0 ∙ rw ih.1)

module _ {rows : List Row} (s : Sound rows) where
  -- a free row has no deadline, and a standing one has a Q
  row-timed : (k : ℕ) → k < rows_max → Timed (deadline_in (row_at rows k))
  row-timed = each_row s (λ r. Timed (deadline_in r)) (λ l. l) (λ r t l. t.over-low)

  -- so r is the greatest of the rows' quotients
  pub overhead-is : overhead_of rows ≡ max_to rows_max (λ k. quotient (longest_of rows) (deadline_in (row_at rows k)))
  unfolding overhead_of shortest_of
  overhead-is = (greatest-shortest (greatest-listed (longest_of rows) rows_max (λ k. deadline_in (row_at rows k)) row-timed)).1

  -- no execution is above the limit
  pub row-longest-le : (k : ℕ) → k < rows_max → (row_at rows k).longest ≤ run_max
  row-longest-le = each_row s (λ r. r.longest ≤ run_max) zero-le (λ r t. t.longest-high)

  pub longest_of-le : longest_of rows ≤ run_max
  unfolding longest_of
  longest_of-le = max_to-le rows_max run_max _ row-longest-le

  -- each quotient of such an execution fits
  pub quotient-in : {x : ℕ} → x ≤ run_max → (k : ℕ) → k < rows_max → DensityIn x (row_at rows k).over (row_at rows k).shortest
  quotient-in {x} high = each_row s (λ r. DensityIn x r.over r.shortest)
      (record { execution-high = high; over-high = zero-le; numerator-high = zero-le })
      (λ r t. record { execution-high = high; over-high = t.over-high; numerator-high = le_trans t.shortest-high (mul-le-mul_left period_max t.over-high) })

  -- and so does r
  pub overhead_of-le : overhead_of rows ≤ overhead_max
  overhead_of-le = rw overhead-is (max_to-le rows_max overhead_max _ (each_row s (λ r. quotient (longest_of rows) (deadline_in r) ≤ overhead_max)
      (least (longest_of rows) 0 0 overhead_max (omega arith))
      (λ r t. least (longest_of rows) r.over r.shortest overhead_max (let a = mul-le-mul longest_of-le t.over-half in omega arith))))

-- so many cores times an overhead fits a word, and so does the left side with it
pub overhead-fits : (n r : ℕ) → n ≤ cores_max → r ≤ overhead_max → n * r < 2 ^ 64
overhead-fits n r h k = lt_of_le_of_lt (mul-le-mul h k) (lit< tt)

pub left-to-end-fits : (s n l c r : ℕ) → s ≤ rows_max * (count_max * density_max) → n ≤ cores_max → l ≤ density_max → c ≤ cores_max → r ≤ overhead_max → s + n * l + c * r < 2 ^ 64
left-to-end-fits s n l c r h k m i j = omega (arith, mul-le-mul k m, mul-le-mul i j)

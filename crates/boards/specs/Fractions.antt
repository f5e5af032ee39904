-- Exact fractions: "Unrounded, a fraction is a pair of whole numbers, the lower one above 0".
use Rattle.std.specs.Prelude.{List, [], ◌∷◌, ℕ, ◌+◌, ◌-◌, ◌*◌, ◌≤◌, eqb, leb}
use Rattle.plain.specs.Pick.{pick}

-- upper over lower
pub record Fraction : Type 0 where
  pub upper : ℕ
  pub lower : ℕ

-- a whole number; "0 is 0 over 1"
abbrev pub whole : ℕ → Fraction
whole k = record { upper = k; lower = 1 }

-- "a density is execution × Q over numerator"; "A node with 0 .. has .. density 0"
abbrev pub exact_density : (execution over numerator : ℕ) → Fraction
exact_density x q n = pick (eqb x 0) (whole 0) (record { upper = x * q; lower = n })

infixl 60 ◌plus◌
-- "a/b + c/d is (a × d + c × b) over (b × d)"
abbrev pub ◌plus◌ : Fraction → Fraction → Fraction
x plus y = record { upper = x.upper * y.lower + y.upper * x.lower; lower = x.lower * y.lower }

-- "a/b ≤ c/d means a × d ≤ c × b"
abbrev pub AtMost : Fraction → Fraction → Type 0
AtMost x y = x.upper * y.lower ≤ y.upper * x.lower

-- k times a fraction
abbrev pub times : ℕ → Fraction → Fraction
times k x = record { upper = k * x.upper; lower = x.lower }

-- the larger of two
abbrev pub larger : Fraction → Fraction → Fraction
larger x y = pick (leb (x.upper * y.lower) (y.upper * x.lower)) y x

-- the sum of all
unfoldable pub total : List Fraction → Fraction
total [] = whole 0
total (x ∷ xs) = x plus total xs

-- the largest of all; 0 where there is none
unfoldable pub largest : List Fraction → Fraction
largest [] = whole 0
largest (x ∷ xs) = larger x (largest xs)

-- the shorter of two deadlines; 0 is none
abbrev pub shorter : Fraction → Fraction → Fraction
shorter x y = pick (eqb x.upper 0) y (pick (eqb y.upper 0) x (pick (leb (x.upper * y.lower) (y.upper * x.lower)) x y))

-- the shortest of all; 0 where there is none
unfoldable pub shortest : List Fraction → Fraction
shortest [] = whole 0
shortest (x ∷ xs) = shorter x (shortest xs)

-- r, unrounded: "the longest execution over the shortest deadline", which is execution × Q over numerator
abbrev pub exact_overhead : (longest : ℕ) (shortest : Fraction) → Fraction
exact_overhead x d = exact_density x d.lower d.upper

-- the left side of the inequality on the unrounded fractions: S + (m − 1) × M
abbrev pub exact_left : ℕ → List Fraction → Fraction
exact_left m xs = total xs plus times (m - 1) (largest xs)

-- "the same inequality on the unrounded fractions": S + (m − 1) × M ≤ m
abbrev pub ExactYes : ℕ → List Fraction → Type 0
ExactYes m xs = AtMost (exact_left m xs) (whole m)

-- with steps that run to their end: S + (m − 1) × M + m × r
abbrev pub exact_left_to_end : ℕ → List Fraction → Fraction → Fraction
exact_left_to_end m xs r = exact_left m xs plus times m r

-- document 000, Theorem 6, on the unrounded fractions: S ≤ m × (1 − r) − (m − 1) × M, with all but m on the left
abbrev pub ExactYesToEnd : ℕ → List Fraction → Fraction → Type 0
ExactYesToEnd m xs r = AtMost (exact_left_to_end m xs r) (whole m)

-- "Cut [0, P] at every start and finish": a start is 0 or a finish, so the cuts are 0 and the finishes. All over n nodes with finishes F.
use Rattle.std.specs.Prelude.{ℕ, zero, suc, ◌-◌, min, ltb}
use Rattle.plain.specs.Pick.{pick, up_to}
use Rattle.plain.specs.Sums.{sum_to, max_to}

-- the earlier of b and f where f lies above t, else b
abbrev pub nearer : (t f b : ℕ) → ℕ
nearer t f b = pick (ltb t f) (min f b) b

-- the least of P and the finishes above t
unfoldable pub next_to : (n : ℕ) (F : ℕ → ℕ) (P t : ℕ) → ℕ
next_to zero F P t = P
next_to (suc n) F P t = nearer t (F n) (next_to n F P t)

-- "path P the latest finish"
abbrev pub latest : (n : ℕ) (F : ℕ → ℕ) → ℕ
latest n F = max_to n F

-- the least finish above t; the path where there is none
unfoldable pub next : (n : ℕ) (F : ℕ → ℕ) (t : ℕ) → ℕ
next n F t = next_to n F (latest n F) t

-- the cuts, ascending from 0; once at the path they stay there
unfoldable pub cut : (n : ℕ) (F : ℕ → ℕ) (j : ℕ) → ℕ
cut n F zero = 0
cut n F (suc j) = next n F (cut n F j)

-- the number of segments: how many cuts lie before the path
unfoldable pub segments : (n : ℕ) (F : ℕ → ℕ) → ℕ
segments n F = sum_to n (λ j. up_to (suc (cut n F j)) (latest n F))

-- "Segment j has length e_j": it goes from cut j to the next
unfoldable pub length_of : (n : ℕ) (F : ℕ → ℕ) (j : ℕ) → ℕ
length_of n F j = cut n F (suc j) - cut n F j

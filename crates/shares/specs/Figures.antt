-- The figures of a task, for the board's row and for the sheet.
use Rattle.std.specs.Prelude.{ℕ, zero, suc, min, eqb}
use Rattle.plain.specs.Pick.{pick}
use Rattle.plain.specs.Sums.{sum_to, max_to}
use Rattle.shares.specs.declared.Figures.{Figures}

-- "`sum` and `max` are the total and the largest of this task's node densities"
abbrev pub figures : (n : ℕ) (density : ℕ → ℕ) → Figures
figures n density = record { sum = sum_to n density; largest = max_to n density }

-- the smaller of two deadline numerators; 0 is none, as a join has "deadline 0" and "isn't counted"
unfoldable pub smaller : ℕ → ℕ → ℕ
smaller a b = pick (eqb a 0) b (pick (eqb b 0) a (min a b))

-- "its smallest deadline numerator", of f 0, f 1, .. , n of them; 0 where there is none
unfoldable pub smallest_to : ℕ → (ℕ → ℕ) → ℕ
smallest_to zero f = 0
smallest_to (suc n) f = smaller (smallest_to n f) (f n)

-- "the number of ones in the set".
use Rattle.std.specs.Prelude.{ℕ}
use Rattle.plain.specs.Sums.{sum_to}
use Rattle.sets.specs.Member.{bit}

-- how many of the numbers below d are members
unfoldable pub size_to : ℕ → ℕ → ℕ
size_to d s = sum_to d (λ k. bit k s)

-- the number of ones in a 64-bit word
abbrev pub size : ℕ → ℕ
size s = size_to 64 s

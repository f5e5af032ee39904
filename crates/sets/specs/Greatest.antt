-- The greatest value over the members of a set.
use Rattle.std.specs.Prelude.{ℕ, zero, suc, max}
use Rattle.sets.specs.Member.{bit}

-- the value where the digit is 1, else 0
abbrev pub kept : ℕ → ℕ → ℕ
kept zero x = 0
kept (suc b) x = x

-- the greatest of f over the members of s below d, 0 where there is none
unfoldable pub greatest : ℕ → ℕ → (ℕ → ℕ) → ℕ
greatest zero s f = 0
greatest (suc d) s f = max (greatest d s f) (kept (bit d s) (f d))

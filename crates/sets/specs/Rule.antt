-- A set given by a rule.
use Rattle.std.specs.Prelude.{ℕ, zero, suc, ◌+◌, ◌*◌, ◌^◌}

-- the set of the numbers below n for which f says 1, where it says 0 or 1
unfoldable pub set_of : ℕ → (ℕ → ℕ) → ℕ
set_of zero f = 0
set_of (suc n) f = set_of n f + f n * 2 ^ n

-- What a decimal is.
use Rattle.std.specs.Prelude.{List, [], ◌∷◌, ◌++◌, ℕ, zero, suc, ◌+◌, ◌/◌, ◌%◌, ltb}
use Rattle.plain.specs.Pick.{pick}

-- the digits of v in ASCII without leading zeros, the last k of them where there are more
unfoldable pub digits : (k v : ℕ) → List ℕ
digits zero v = []
digits (suc k) v = pick (ltb v 10) ((48 + v) ∷ []) (digits k (v / 10) ++ ((48 + v % 10) ∷ []))

-- a 64-bit number has at most 20 digits
unfoldable pub decimal : ℕ → List ℕ
decimal v = digits 20 v

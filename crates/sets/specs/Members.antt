-- The members of a set as a list.
use Rattle.std.specs.Prelude.{List, [], ◌∷◌, ◌++◌, ℕ, zero, suc}
use Rattle.sets.specs.Member.{bit}

-- k alone where its digit is 1, else nothing
abbrev pub only : ℕ → ℕ → List ℕ
only zero k = []
only (suc b) k = k ∷ []

-- the members of s below d, ascending
unfoldable pub members : ℕ → ℕ → List ℕ
members zero s = []
members (suc d) s = members d s ++ only (bit d s) d

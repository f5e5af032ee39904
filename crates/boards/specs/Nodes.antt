-- Of "all nodes of all standing tasks" one task's, as a list.
use Rattle.std.specs.Prelude.{List, [], ◌∷◌, ◌++◌, ℕ, zero, suc}
use Rattle.boards.specs.Fractions.{Fraction}

-- x 0, x 1, .. , n of them
unfoldable pub listed : ℕ → (ℕ → Fraction) → List Fraction
listed zero x = []
listed (suc n) x = listed n x ++ (x n ∷ [])

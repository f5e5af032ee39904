-- Words in triples, as a plan has them for its segments and for its nodes.
use Rattle.std.specs.Prelude.{List, [], ◌∷◌, ◌++◌, ℕ, zero, suc}

-- "n times" the three words f v, g v, h v, for v from 0
unfoldable pub triples : (f g h : ℕ → ℕ) (n : ℕ) → List ℕ
triples f g h zero = []
triples f g h (suc n) = triples f g h n ++ (f n ∷ g n ∷ h n ∷ [])

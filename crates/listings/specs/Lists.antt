-- A node's parents, as they were listed.
use Rattle.std.specs.Prelude.{Bool, true, false, ◌&&◌, List, [], ◌∷◌, ℕ, ◌+◌, ◌-◌, eqb, leb, length}
use Rattle.plain.specs.Pick.{pick, one}
use Rattle.sets.specs.Rule.{set_of}
use Rattle.tables.specs.Limits.{count_max}

-- "The given parent count may be at most 255 and may exceed n."
abbrev pub given_max : ℕ
given_max = 255

-- whether k is listed
unfoldable pub is_listed : List ℕ → (k : ℕ) → Bool
is_listed [] k = false
is_listed (p ∷ ps) k = pick (eqb p k) true (is_listed ps k)

-- "each node's set of parents stays the same": the set of those that are listed
abbrev pub list_set : List ℕ → ℕ
list_set given = set_of count_max (λ k. one (is_listed given k))

-- a list with every p left out
unfoldable pub without : List ℕ → (p : ℕ) → List ℕ
without [] p = []
without (q ∷ qs) p = pick (eqb q p) (without qs p) (q ∷ without qs p)

-- "the parents as given, repeats after the first left out"
unfoldable pub firsts : List ℕ → List ℕ
firsts [] = []
firsts (p ∷ ps) = p ∷ without (firsts ps) p

-- "ascending": the first is at least low, and each other one above the one before it
unfoldable pub ascends : List ℕ → (low : ℕ) → Bool
ascends [] low = true
ascends (p ∷ ps) low = leb low p && ascends ps (p + 1)

-- "A list counts as reordered where the parents as given, repeats after the first left out, aren't ascending.": 1, else 0
abbrev pub reordered : List ℕ → ℕ
reordered given = pick (ascends (firsts given) 0) 0 1

-- "parents dropped as repeats"
abbrev pub dropped : List ℕ → ℕ
dropped given = length given - length (firsts given)

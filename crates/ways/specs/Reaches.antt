-- Which nodes a node reaches over its parents, and what a loop is.
use Rattle.std.specs.Prelude.{List, ℕ, ◌<◌}
use Rattle.plain.specs.At.{at}
use Rattle.sets.specs.Member.{Member}

-- "reached .. by one or more parent edges": the parents of v are the members of entry v
pub data Reaches (P : List ℕ) : ℕ → ℕ → Type 0 where
  edge : {v p : ℕ} → Member p (at P v) → Reaches P v p
  more : {v p q : ℕ} → Member p (at P v) → Reaches P p q → Reaches P v q

-- "some node is reached from itself by one or more parent edges"
abbrev pub Loops : List ℕ → ℕ → Type 0
Loops P n = (v : ℕ) × (v < n) × Reaches P v v

-- Edges and ways inside a set of nodes.
use Rattle.std.specs.Prelude.{List, ℕ, min}
use Rattle.plain.specs.At.{at, tab}
use Rattle.sets.specs.Member.{bit, Member}
use Rattle.sets.specs.Rule.{set_of}

-- p is a parent of v, and the edge is "inside the set": both its ends are in S
pub record EdgeIn (P : List ℕ) (S v p : ℕ) : Type 0 where
  pub edge : Member p (at P v)
  pub child : Member v S
  pub parent : Member p S

-- "by one or more edges inside the set"
pub data ReachesIn (P : List ℕ) (S : ℕ) : ℕ → ℕ → Type 0 where
  edge : {v p : ℕ} → EdgeIn P S v p → ReachesIn P S v p
  more : {v p q : ℕ} → EdgeIn P S v p → ReachesIn P S p q → ReachesIn P S v q

-- the same edges as digits, 1 where there is one
abbrev pub edge_digit : List ℕ → (S v p : ℕ) → ℕ
edge_digit P S v p = min (bit p (at P v)) (min (bit v S) (bit p S))

-- the parent sets of n nodes with just the edges inside S
unfoldable pub inside : List ℕ → (n S : ℕ) → List ℕ
inside P n S = tab n (λ v. set_of n (edge_digit P S v))

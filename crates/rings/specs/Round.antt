-- What is said of the node that refusal 10 names, and of the set beside it.
use Rattle.std.specs.Prelude.{◌≡◌, List, ℕ, suc, ◌<◌}
use Rattle.plain.specs.At.{at}
use Rattle.sets.specs.Member.{Member}
use Rattle.ways.specs.Reaches.{Reaches}
use Rattle.rings.specs.Inside.{ReachesIn}

-- r is "the smallest node that is reached from itself"
pub record Smallest (P : List ℕ) (r : ℕ) : Type 0 where
  pub here : Reaches P r r
  pub before : (v : ℕ) → v < r → Reaches P v v → ⊥

-- one round through all members of S, each met once (docs/DECISIONS.md, 31): from r on each node that is met waits for the next, the last for r
pub record Circle (P : List ℕ) (r S : ℕ) : Type 0 where
  pub size : ℕ
  pub met : ℕ → ℕ
  pub begins : met 0 ≡ r
  pub closes : met size ≡ r
  pub waits : (i : ℕ) → i < size → Member (met (suc i)) (at P (met i))
  pub member : (i : ℕ) → i < size → Member (met i) S
  pub all : (x : ℕ) → Member x S → (i : ℕ) × (i < size) × (met i ≡ x)
  pub once : (i j : ℕ) → i < size → j < size → met i ≡ met j → i ≡ j

-- S is "a loop through it", and no larger than it must be (docs/DECISIONS.md, 31)
pub record Round (P : List ℕ) (r S : ℕ) : Type 0 where
  -- "the named node is a member"
  pub member : Member r S
  -- "every member reaches the named node, and is reached from it, by one or more edges inside the set"
  pub back : (x : ℕ) → Member x S → ReachesIn P S x r
  pub out : (x : ℕ) → Member x S → ReachesIn P S r x
  -- no member x can be left out: inside a set T of other members r is not reached from itself
  pub needed : (x T : ℕ) → Member x S → ((k : ℕ) → Member k T → Member k S) → (Member x T → ⊥) → ReachesIn P T r r → ⊥
  -- so it can be followed: once round through all of them
  pub circle : Circle P r S

-- Nodes settled one by one, each after its parents, and what their number says of loops in the end.
use Rattle.std.specs.Prelude.{◌≡◌, List, ℕ, ◌≤◌, ◌<◌, ltb, length}
use Rattle.plain.specs.At.{at}
use Rattle.sets.specs.Member.{Member}
use Rattle.sets.specs.Size.{size_to}
use Rattle.ways.specs.Reaches.{Reaches}
use Rattle.ways.specs.Closure.{loops}
use Rattle.ways.specs.Inner.Order.{Listed, Ordered}

-- the first c entries of l, an array of 64, are an order of the settled nodes, and s is their set
pub record Settling (P : List ℕ) (n c : ℕ) (l : List ℕ) (s : ℕ) : Type 0 where
  pub room : length l ≡ 64
  pub order : Ordered P n c l
  pub size : size_to n s ≡ c
  pub held : (i : ℕ) → i < c → Member (at l i) s
  pub listed : (k : ℕ) → Member k s → Listed l c k

-- c of n nodes could be settled: all of them exactly where no node is reached from itself
pub record Settled (P : List ℕ) (n c : ℕ) : Type 0 where
  pub within : c ≤ n
  pub free : c ≡ n → (v : ℕ) → Reaches P v v → ⊥
  pub told : loops P n ≡ ltb c n

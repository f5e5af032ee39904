-- An order in which every node follows its parents.
use Rattle.std.specs.Prelude.{◌≡◌, List, ℕ, ◌<◌}
use Rattle.plain.specs.At.{at}
use Rattle.sets.specs.Member.{Member}

-- k stands among the first c entries
abbrev pub Listed : List ℕ → ℕ → ℕ → Type 0
Listed l c k = (j : ℕ) × (j < c) × (at l j ≡ k)

-- the first c entries of l: nodes below n, each once, each after all its parents; the order is whole where c is n
pub record Ordered (P : List ℕ) (n c : ℕ) (l : List ℕ) : Type 0 where
  pub node : (i : ℕ) → i < c → at l i < n
  pub once : (i j : ℕ) → i < c → j < c → at l i ≡ at l j → i ≡ j
  pub after : (i p : ℕ) → i < c → Member p (at P (at l i)) → (j : ℕ) × (j < i) × (at l j ≡ p)

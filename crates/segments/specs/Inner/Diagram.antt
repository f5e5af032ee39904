-- What a timing diagram of n nodes gives: starts S, finishes F, executions X. No execution is taken to be above 0.
use Rattle.std.specs.Prelude.{◌≡◌, ◌⊎◌, ℕ, ◌+◌, ◌<◌}

-- "Finish is start plus execution"; a start is 0 or "the latest finish of its parents", and a parent has a lower rank in an order of the nodes
pub record Diagram (n : ℕ) (S F X : ℕ → ℕ) : Type 0 where
  pub rank : ℕ → ℕ
  pub ends : (v : ℕ) → v < n → F v ≡ S v + X v
  pub begins : (v : ℕ) → v < n → (S v ≡ 0) ⊎ ((p : ℕ) × (p < n) × (S v ≡ F p) × (rank p < rank v))

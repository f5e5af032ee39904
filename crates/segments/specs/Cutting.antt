-- "Cut [0, P] at every start and finish", said of any list of times.
use Rattle.std.specs.Prelude.{◌≡◌, ◌⊎◌, ℕ, suc, ◌≤◌, ◌<◌}

-- c 0, c 1, .. c s are 0, every start and every finish, each once, ascending, and nothing else
pub record Cutting (n : ℕ) (S F : ℕ → ℕ) (s : ℕ) (c : ℕ → ℕ) : Type 0 where
  pub from : c 0 ≡ 0
  pub up : (j : ℕ) → j < s → c j < c (suc j)
  pub start : (v : ℕ) → v < n → (j : ℕ) × (j ≤ s) × (c j ≡ S v)
  pub finish : (v : ℕ) → v < n → (j : ℕ) × (j ≤ s) × (c j ≡ F v)
  pub only : (j : ℕ) → j ≤ s → (c j ≡ 0) ⊎ ((v : ℕ) × (v < n) × ((c j ≡ S v) ⊎ (c j ≡ F v)))

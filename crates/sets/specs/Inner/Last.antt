-- The last member of a set.
use Rattle.std.specs.Prelude.{ℕ, ◌≤◌, ◌<◌}
use Rattle.sets.specs.Member.{Member}

-- k is the last member of s
pub record Last (k s : ℕ) : Type 0 where
  pub low : k < 64
  pub mem : Member k s
  pub top : (j : ℕ) → Member j s → j ≤ k

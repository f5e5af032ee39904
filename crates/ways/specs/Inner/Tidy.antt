-- What the code and the laws ask of parent sets.
use Rattle.std.specs.Prelude.{◌≡◌, List, ℕ, ◌^◌, ◌≤◌, ◌<◌}
use Rattle.plain.specs.At.{at}

-- the range of parent sets: "parent numbers, each below n", and "Entries past the node count are 0"
pub record Tidy (P : List ℕ) (n : ℕ) : Type 0 where
  pub past : (v : ℕ) → n ≤ v → at P v ≡ 0
  pub word : (v : ℕ) → at P v < 2 ^ n

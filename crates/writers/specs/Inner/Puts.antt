-- What a step of writing does to the lent bytes.
use Rattle.std.specs.Prelude.{ℕ, ◌≡◌, ◌+◌, ◌≤◌, List, length}
use Rattle.std.proofs.lemmas.List.Edits.{sets}
use Rattle.writers.specs.declared.Writer.{Writer}

-- there is room for these bytes
abbrev pub Room : Writer → List ℕ → Type 0
Room before written = before.at + length written ≤ length before.bytes.now

-- they were put at the place, which moved behind them, and the bytes are still those that were lent
pub record Puts (before after : Writer) (written : List ℕ) : Type 0 where
  pub same_reference : after.bytes.ghost_name ≡ before.bytes.ghost_name
  pub place : after.at ≡ before.at + length written
  pub bytes_after : after.bytes.now ≡ sets before.bytes.now before.at written

-- A spot of a list of bytes.
use Rattle.std.specs.Prelude.{ℕ, ◌≤◌, List, length}
use Rattle.menders.specs.declared.Spot.{Spot}

-- the place is a byte of the list or its end, and each padded number before it has a byte at least
abbrev pub Within : List ℕ → Spot → Type 0
Within bytes spot = (spot.at ≤ length bytes) × (spot.padded ≤ spot.at)

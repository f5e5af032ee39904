-- Where each number of a record stands, whether it is in its range or not.
use Rattle.std.specs.Prelude.{ℕ, ◌+◌, ◌≤◌, ◌<◌, ◌⊎◌, List, ◌∷◌, length}
use Rattle.numbers.specs.Number.{record_more}
use Rattle.numbers.specs.Shortest.{shortest}
use Rattle.records.specs.Expected.{Due, range, Next, after}
use Rattle.records.specs.Expected.Due.{edition}
use Rattle.records.specs.Expected.Next.{number}

-- "the byte at which that number would have stood": behind the shortest forms of those before it, which are in range; `rest` are the numbers from there on
pub data Stands (numbers : List ℕ) : (place : ℕ) → Next → (rest : List ℕ) → Type 0 where
  begin : Stands numbers 0 (number edition) numbers
  on : {place v : ℕ} {due : Due} {rest : List ℕ} → Stands numbers place (number due) (v ∷ rest) → (range due).low ≤ v → v ≤ (range due).high →
      Stands numbers (place + length (shortest record_more v)) (after due v) rest

-- a number that is outside its range, which `broken` refuses, where it stands
pub data Outside (numbers : List ℕ) : (broken place : ℕ) → Type 0 where
  outside : {place v : ℕ} {due : Due} {rest : List ℕ} → Stands numbers place (number due) (v ∷ rest) → (v < (range due).low) ⊎ ((range due).high < v) →
      Outside numbers (range due).broken place

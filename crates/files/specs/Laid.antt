-- How records lie in a file, and what is refused there, without a walk.
use Rattle.std.specs.Prelude.{ℕ, ◌+◌, ◌≤◌, ◌<◌, List, [], ◌∷◌, ◌++◌, length, drop}
use Rattle.refusals.specs.Numbers.{ended, too_long, not_shortest}
use Rattle.numbers.specs.Number.{record_more}
use Rattle.numbers.specs.Form.{Whole, Ends, Long, Padded}
use Rattle.numbers.specs.Shortest.{shortest}
use Rattle.files.specs.File.{part_of}

-- records one after the other, "each preceded by its length", with nothing else between them
unfoldable pub file_of : List (List ℕ) → List ℕ
file_of [] = []
file_of (bytes ∷ records) = shortest record_more (length bytes) ++ bytes ++ file_of records

-- the file begins with these records, and the next length stands at `place`, or the file ends there
pub data Laid (file : List ℕ) : (records : List (List ℕ)) (place : ℕ) → Type 0 where
  none : Laid file [] 0
  more : {records : List (List ℕ)} {place size n : ℕ} → Laid file records place → Whole record_more (drop place file) size n →
      place + n + size ≤ length file → Laid file (records ++ part_of file (place + n) size ∷ []) (place + n + size)

-- "1, 2 and 18 with the place of the length, and 1 at the file's end where the record runs past it": the number, and the place that is told with it
pub data Refuses (file : List ℕ) : (number place : ℕ) → Type 0 where
  ends : {records : List (List ℕ)} {place : ℕ} → Laid file records place → place < length file → Ends record_more (drop place file) → Refuses file ended place
  long : {records : List (List ℕ)} {place : ℕ} → Laid file records place → Long record_more (drop place file) → Refuses file too_long place
  padded : {records : List (List ℕ)} {place : ℕ} → Laid file records place → Padded record_more (drop place file) → Refuses file not_shortest place
  past : {records : List (List ℕ)} {place size n : ℕ} → Laid file records place → Whole record_more (drop place file) size n →
      length file < place + n + size → Refuses file ended (length file)

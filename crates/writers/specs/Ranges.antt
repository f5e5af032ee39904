-- "Ranges are refused by 4 to 8, in the order in which the record would meet them, with place set to the byte at which that number would have stood."
use Rattle.std.specs.Prelude.{ℕ, ◌+◌, ◌&&◌, List, [], ◌∷◌, length, leb, Result, Ok, Err, ⊤}
use Rattle.plain.specs.Pick.{pick}
use Rattle.refusals.specs.declared.Refusal.{Refusal}
use Rattle.refusals.specs.Refusal.{refusal}
use Rattle.numbers.specs.Number.{record_more}
use Rattle.numbers.specs.Shortest.{shortest}
use Rattle.records.specs.Expected.{range, Next, after}
use Rattle.records.specs.Expected.Due.{edition}
use Rattle.records.specs.Expected.Next.{number, nothing}

-- numbers from a place on, where a reader expects `next`: the first that is outside its range is refused, at the byte where it would stand; the one
-- after it stands behind its shortest form
unfoldable pub ranges_from : List ℕ → (next : Next) (place : ℕ) → Result ⊤ Refusal
ranges_from [] next place = Ok tt
ranges_from (v ∷ vs) (number due) place =
    pick (leb (range due).low v && leb v (range due).high)
    (ranges_from vs (after due v) (place + length (shortest record_more v)))
    (Err (refusal (range due).broken place))
ranges_from (v ∷ vs) (nothing t) place = Ok tt

-- a record's numbers, from its edition on
abbrev pub ranges : List ℕ → Result ⊤ Refusal
ranges numbers = ranges_from numbers (number edition) 0

-- A number of the given record: "numbers of at most four bytes", in any form.
use Rattle.std.specs.Prelude.{ℕ, ◌+◌, ◌&&◌, List, length, drop, leb, Result, Ok, Err}
use Rattle.plain.specs.Pick.{pick}
use Rattle.refusals.specs.Numbers.{ended, too_long}
use Rattle.refusals.specs.declared.Refusal.{Refusal}
use Rattle.refusals.specs.Refusal.{refusal}
use Rattle.numbers.specs.declared.Number.{Number}
use Rattle.numbers.specs.declared.Fault.{Fault}
use Rattle.numbers.specs.declared.Fault.TheVariants.{Ended, TooLong, NotShortest}
use Rattle.numbers.specs.Number.{number, record_more}
use Rattle.menders.specs.declared.Spot.{Spot}

-- a value and the spot after it
pub record Taken : Type 0 where
  pub value : ℕ
  pub spot : Spot

-- this, or a refusal
abbrev pub Step : Type 0
Step = Result Taken Refusal

-- a step that read
abbrev pub read : (value : ℕ) → Spot → Step
read value spot = Ok (record { value = value; spot = spot })

-- what was taken, and then `more` of its value and the spot after it; "a refusal goes straight out with its place"
unfoldable pub then_taken : {A : Type 0} → (Refusal → A) → Step → (ℕ → Spot → A) → A
then_taken out (Ok t) more = more t.value t.spot
then_taken out (Err r) more = out r

-- the same of whatever was read
unfoldable pub then_of : {T A : Type 0} → (Refusal → A) → Result T Refusal → (T → A) → A
then_of out (Ok t) more = more t
then_of out (Err r) more = out r

-- "the reader's, less 18": a number that is padded is counted, and has its value all the same; found at a spot of an input of `size` bytes
abbrev pub taken_of : (size : ℕ) → Spot → Result Number Fault → Step
taken_of size spot (Ok r) = read r.value (record { at = spot.at + r.length; padded = spot.padded })
taken_of size spot (Err Ended) = Err (refusal ended size)
taken_of size spot (Err TooLong) = Err (refusal too_long spot.at)
taken_of size spot (Err (NotShortest r)) = read r.value (record { at = spot.at + r.length; padded = spot.padded + 1 })

-- the number at a spot
unfoldable pub any_form : List ℕ → Spot → Step
any_form bytes spot = taken_of (length bytes) spot (number record_more (drop spot.at bytes))

-- "Each number is read whole (1, 2) before its range is tried.": outside low..high it is refused by `broken`, at "that number"
unfoldable pub taken : (broken low high : ℕ) → List ℕ → Spot → Step
taken broken low high bytes from =
    then_taken Err (any_form bytes from) λ v spot.
    pick (leb low v && leb v high) (read v spot) (Err (refusal broken from.at))

-- What the code keeps of a word.
use Rattle.std.specs.Prelude.{ℕ, ◌+◌, ◌≤◌, ◌<◌, ◌≡◌, false, List, [], ◌∷◌, Result, Ok, Err, ltb, length}
use Rattle.plain.specs.Pick.{pick}
use Rattle.plain.specs.At.{at}
use Rattle.graphwords.specs.declared.Number.{Number}
use Rattle.graphwords.specs.declared.Fault.{Fault}
use Rattle.graphwords.specs.declared.Fault.TheVariants.{Ended, Other}
use Rattle.graphwords.specs.Words.{is_parting, Word, words_at}
use Rattle.graphwords.specs.Decimal.{is_decimal, decimal_of}

-- the least number that is past every limit of a text
abbrev pub cap : ℕ
cap = 65536

-- a number, counted no further than that
abbrev pub capped : ℕ → ℕ
capped v = pick (ltb v cap) v cap

-- the place after a word
abbrev pub past_word : Word → ℕ
past_word w = w.place + length w.letters

-- the first of the words that are left
unfoldable pub found_in : List Word → Result Number Fault
found_in [] = Err Ended
found_in (w ∷ words) =
    pick (is_decimal w.letters)
    (Ok (record { value = capped (decimal_of w.letters); place = w.place; end = past_word w }))
    (Err (Other w.place))

-- where the first word from a place on begins: from there on the words are the same, and there the text ends or has no parting
pub record Begins (text : List ℕ) (from place : ℕ) : Type 0 where
  pub inside : place ≤ length text
  pub same : words_at text from ≡ words_at text place
  pub first : place < length text → is_parting (at text place) ≡ false

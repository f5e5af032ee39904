-- What a word of a text is, and where it stands.
use Rattle.std.specs.Prelude.{ℕ, ◌+◌, ◌≤◌, ◌<◌, ◌≡◌, Bool, true, false, ◌||◌, List, [], ◌∷◌, eqb, length, drop}
use Rattle.plain.specs.Pick.{pick}
use Rattle.plain.specs.At.{at}

-- "Spaces and line ends (10, 13) alike part words.", and nothing else does
abbrev pub is_parting : ℕ → Bool
is_parting byte = eqb byte 32 || eqb byte 10 || eqb byte 13

-- a word: the place of its first byte in the text, and its bytes
pub record Word : Type 0 where
  pub place : ℕ
  pub letters : List ℕ

-- the bytes up to the next parting, or up to the end
unfoldable pub letters_of : List ℕ → List ℕ
letters_of [] = []
letters_of (b ∷ bytes) = pick (is_parting b) [] (b ∷ letters_of bytes)

-- the words of the bytes from a place on: one begins at each byte that is no parting, unless it stands inside a word, after another such byte
unfoldable pub words_from : (inside : Bool) (place : ℕ) → List ℕ → List Word
words_from inside place [] = []
words_from inside place (b ∷ bytes) =
    pick (is_parting b) (words_from false (place + 1) bytes)
    (pick inside (words_from true (place + 1) bytes)
    (record { place = place; letters = letters_of (b ∷ bytes) } ∷ words_from true (place + 1) bytes))

-- the words of a text from a place on
abbrev pub words_at : (text : List ℕ) (place : ℕ) → List Word
words_at text place = words_from false place (drop place text)

-- the same by the text's bytes: a word begins where no parting stands, at the text's first byte or after a parting, and goes up to the next parting
pub record Stands (text : List ℕ) (w : Word) : Type 0 where
  pub inside : w.place < length text
  pub begins : is_parting (at text w.place) ≡ false
  pub apart : (k : ℕ) → w.place ≡ k + 1 → is_parting (at text k) ≡ true
  pub letters : w.letters ≡ letters_of (drop w.place text)

-- "from the left": from a place on, each word after the one before it
pub data Ascending : (from : ℕ) → List Word → Type 0 where
  none : {from : ℕ} → Ascending from []
  more : {from : ℕ} {w : Word} {words : List Word} → from ≤ w.place → Ascending (w.place + 1) words → Ascending from (w ∷ words)

-- What a word says.
use Rattle.std.specs.Prelude.{ℕ, ◌+◌, ◌-◌, ◌*◌, Bool, true, false, ◌&&◌, List, [], ◌∷◌, eqb, leb}

-- a decimal digit in ASCII, 48 for 0 up to 57 for 9
abbrev pub is_digit : ℕ → Bool
is_digit byte = leb 48 byte && leb byte 57

-- "A word is decimal digits, any count of them"
unfoldable pub is_decimal : List ℕ → Bool
is_decimal [] = true
is_decimal (d ∷ digits) = is_digit d && is_decimal digits

-- the number of the digits that follow those of a number before them
unfoldable pub decimal_after : (before : ℕ) → List ℕ → ℕ
decimal_after before [] = before
decimal_after before (d ∷ digits) = decimal_after (10 * before + (d - 48)) digits

-- the plain number of a word of digits
abbrev pub decimal_of : List ℕ → ℕ
decimal_of letters = decimal_after 0 letters

-- "a word starting with #"
abbrev pub is_comment : List ℕ → Bool
is_comment [] = false
is_comment (b ∷ letters) = eqb b 35

-- "lines of fixed words and decimals"
use Rattle.std.specs.Prelude.{List, [], ◌∷◌, ◌++◌, ℕ}
use Rattle.texts.specs.Decimal.{decimal}

-- the byte after a number within a line
abbrev pub space : ℕ
space = 32

-- the byte after a line's last number
abbrev pub line_end : ℕ
line_end = 10

-- a fixed word, a decimal and the byte after it
unfoldable pub field : (word : List ℕ) (value after : ℕ) → List ℕ
field word value after = word ++ decimal value ++ (after ∷ [])

-- a line: fixed words, each with its number
unfoldable pub line : List (List ℕ × ℕ) → List ℕ
line [] = []
line ((word, value) ∷ []) = field word value line_end
line ((word, value) ∷ next ∷ rest) = field word value space ++ line (next ∷ rest)

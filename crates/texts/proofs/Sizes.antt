-- A line's size: a field has its word, at most 20 digits and a byte, so that a line has a bound that its words alone tell.
use mathlib.Core.List.{List, [], ◌∷◌}
use Prim.Native.Nat.{ℕ, ◌+◌, ◌≤◌, zero-le}
use native.Mathlib.Omega.{arith}
use lib.ListN.{length, length-append}
use Rattle.texts.specs.Lines.{field, line, space, line_end}
use Rattle.texts.proofs.Decimals.{decimal-size}

field-size : (word : List ℕ) (value after : ℕ) → length (field word value after) ≤ length word + 21
unfolding field
field-size word value after = simp length-append (omega (arith, decimal-size value))

-- so many bytes hold the line
abbrev pub line_most : List (List ℕ × ℕ) → ℕ
line_most [] = 0
line_most ((word, value) ∷ rest) = length word + 21 + line_most rest

pub line-size : (fields : List (List ℕ × ℕ)) → length (line fields) ≤ line_most fields
unfolding line
line-size [] = zero-le
line-size ((word, value) ∷ []) = omega (arith, field-size word value line_end)
line-size ((word, value) ∷ next ∷ rest) = simp length-append (omega (arith, field-size word value space, line-size (next ∷ rest)))

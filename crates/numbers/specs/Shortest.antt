-- A number as it is written.
use Rattle.std.specs.Prelude.{ℕ, zero, suc, ◌+◌, ◌/◌, ◌%◌, ◌<◌, List, [], ◌∷◌, ◌++◌, ltb}
use Rattle.plain.specs.At.{at}
use Rattle.plain.specs.Pick.{pick}

-- every element is a byte
abbrev pub Bytes : List ℕ → Type 0
Bytes s = (k : ℕ) → at s k < 256

-- "each with seven bits of value, lowest group first. The top bit is set in every byte but the last.", as few as it takes: v in shortest form, where it has
-- at most `more` groups after its first; "So 128 is 80 01, and 16,777,215 is FF FF FF 07."
unfoldable pub shortest : (more v : ℕ) → List ℕ
shortest zero v = v ∷ []
shortest (suc more) v = pick (ltb v 128) (v ∷ []) ((128 + v % 128) ∷ shortest more (v / 128))

-- "Only the shortest form is allowed": numbers as they are written, one after the other
unfoldable pub all_shortest : (more : ℕ) → List ℕ → List ℕ
all_shortest more [] = []
all_shortest more (v ∷ vs) = shortest more v ++ all_shortest more vs

-- Fixed words as bytes.
use Rattle.std.specs.Prelude.{List, [] as none, ◌∷◌ as ◌before◌, ℕ}
use Prim.Native.Char.{code}
use Prim.Native.String.{String, [], ◌∷◌}

-- bytes "task " is the code's b"task ": a byte for each character, all of them ASCII
abbrev pub bytes : String → List ℕ
bytes [] = none
bytes (c ∷ text) = code c before bytes text

-- What a writer leaves.
use Rattle.std.specs.Prelude.{List, ◌++◌, ℕ, ◌+◌, length, take, drop}

-- the buffer after the text is written at place at: "bytes past them keep their content"
unfoldable pub wrote : (at : ℕ) (text out : List ℕ) → List ℕ
wrote at text out = take at out ++ text ++ drop (at + length text) out

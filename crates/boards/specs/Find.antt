-- Where a row stands.
use Rattle.std.specs.Prelude.{List, [], ◌∷◌, ℕ, suc, eqb}
use Rattle.plain.specs.Pick.{pick}
use Rattle.boards.specs.declared.Row.{Row}

-- the lowest row with this id; the number of rows where none has it
unfoldable pub place_of : ℕ → List Row → ℕ
place_of id [] = 0
place_of id (r ∷ rs) = pick (eqb r.id id) 0 (suc (place_of id rs))

-- "the lowest free row": of a sound board just the free rows have id 0
abbrev pub free_at : List Row → ℕ
free_at rows = place_of 0 rows

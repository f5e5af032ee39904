-- The lines of a sheet: "fixed words and decimals".
use Rattle.std.specs.Prelude.{List, [], ◌∷◌, ◌++◌, ℕ, zero, suc, ◌+◌, ◌*◌}
use Rattle.plain.specs.At.{at}
use Rattle.refusals.specs.declared.Refusal.{Refusal}
use Rattle.shares.specs.declared.Figures.{Figures}
use Rattle.texts.specs.declared.Triple.{Triple}
use Rattle.texts.specs.Text.{bytes}
use Rattle.texts.specs.Lines.{line}
use Rattle.sheets.specs.declared.lines.Head.{Head}
use Rattle.sheets.specs.declared.lines.Part.{Part}
use Rattle.sheets.specs.declared.lines.Part.TheVariants.{Segments, Nodes}

-- "task 3 period 6 work 5 path 3 over 5"
abbrev pub task_line : Head → (over : ℕ) → List ℕ
task_line head over = line ((bytes "task ", head.id) ∷ (bytes "period ", head.period) ∷ (bytes "work ", head.work) ∷ (bytes "path ", head.path) ∷ (bytes "over ", over) ∷ [])

-- "seg 0 threads 2 length 1 deadline 12", "node 0 offset 0 deadline 30 density 500000"
abbrev pub triple_line : Part → (k : ℕ) → Triple → List ℕ
triple_line Segments j t = line ((bytes "seg ", j) ∷ (bytes "threads ", t.x) ∷ (bytes "length ", t.y) ∷ (bytes "deadline ", t.z) ∷ [])
triple_line Nodes v t = line ((bytes "node ", v) ∷ (bytes "offset ", t.x) ∷ (bytes "deadline ", t.y) ∷ (bytes "density ", t.z) ∷ [])

-- triple k of the words of a part
abbrev pub triple_at : (triples : List ℕ) (k : ℕ) → Triple
triple_at triples k = record { x = at triples (3 * k); y = at triples (3 * k + 1); z = at triples (3 * k + 2) }

-- line 0, line 1, .., n of them
unfoldable pub lines_to : ℕ → (ℕ → List ℕ) → List ℕ
lines_to zero line = []
lines_to (suc n) line = lines_to n line ++ line n

-- "the plan's triples in their order, numbered from 0"
abbrev pub triples_to : (n : ℕ) → Part → (triples : List ℕ) → List ℕ
triples_to n part triples = lines_to n (λ k. triple_line part k (triple_at triples k))

-- "sum 1333334 max 500000"
abbrev pub total_line : Figures → List ℕ
total_line figures = line ((bytes "sum ", figures.sum) ∷ (bytes "max ", figures.largest) ∷ [])

-- "refused 10 at 0", the number and the place
abbrev pub refused_line : Refusal → List ℕ
refused_line r = line ((bytes "refused ", r.number) ∷ (bytes "at ", r.place) ∷ [])

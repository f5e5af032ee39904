-- What buildingsheet prints for a file: "print counts: records, accepted, refused by number, nodes, segments, total work, heavy and light segments, and the
-- number of tasks with any density above one".
use Rattle.std.specs.Prelude.{List, [], ◌∷◌, ◌++◌, ℕ, eqb, take}
use Rattle.plain.specs.At.{at}
use Rattle.plain.specs.Pick.{pick}
use Rattle.refusals.specs.declared.Answer.{Answer}
use Rattle.buildings.specs.declared.Counts.{Counts}
use Rattle.buildings.specs.declared.Building.{Building}
use Rattle.buildings.specs.Counts.{numbers_max}
use Rattle.buildings.specs.Building.{building_call}
use Rattle.texts.specs.Text.{bytes}
use Rattle.texts.specs.Lines.{line}
use Rattle.sheets.specs.Lines.{lines_to}
use Rattle.sheets.specs.Printed.{sheet_cost}

-- "records 12": a line for each count
unfoldable pub count_lines : List (List ℕ × ℕ) → List ℕ
count_lines [] = []
count_lines (count ∷ counts) = line (count ∷ []) ++ count_lines counts

-- nothing where n is 0, else the text
abbrev pub unless_zero : (n : ℕ) → List ℕ → List ℕ
unless_zero n text = pick (eqb n 0) [] text

-- "refused 10 count 2", where any record was refused by the number
abbrev pub number_line : (k count : ℕ) → List ℕ
number_line k count = unless_zero count (line ((bytes "refused ", k) ∷ (bytes "count ", count) ∷ []))

-- "refused by number", ascending
abbrev pub number_lines : (refused : List ℕ) → List ℕ
number_lines refused = lines_to numbers_max (λ k. number_line k (at refused k))

-- "ended 18 at 345", where the answer is a refusal ("A damaged length ends the walk"): its number and place
abbrev pub ended_line : Answer → List ℕ
ended_line a = unless_zero a.refusal (line ((bytes "ended ", a.refusal) ∷ (bytes "at ", a.place) ∷ []))

-- "records, accepted"
abbrev pub record_counts : Counts → List (List ℕ × ℕ)
record_counts c = (bytes "records ", c.records) ∷ (bytes "accepted ", c.accepted) ∷ []

-- "nodes, segments, total work"
abbrev pub task_counts : Counts → List (List ℕ × ℕ)
task_counts c = (bytes "nodes ", c.nodes) ∷ (bytes "segments ", c.segments) ∷ (bytes "work ", c.work) ∷ []

-- "heavy and light segments, and the number of tasks with any density above one"
abbrev pub density_counts : Counts → List (List ℕ × ℕ)
density_counts c = (bytes "heavy ", c.heavy) ∷ (bytes "light ", c.light) ∷ (bytes "dense ", c.dense) ∷ []

-- the counts in the request's order
abbrev pub counts_text : Counts → List ℕ
counts_text c = count_lines (record_counts c) ++ number_lines c.refused ++ count_lines (task_counts c) ++ count_lines (density_counts c)

-- and how the walk ended
unfoldable pub building_text : Building → List ℕ
building_text b = counts_text b.counts ++ ended_line b.answer

-- "The program reads a file's first 65,536 bytes"
abbrev pub sheet_file : ℕ
sheet_file = 65_536

-- the building in these bytes
abbrev pub building_in : (file : List ℕ) → Building
building_in file = building_call (take sheet_file file) sheet_cost

-- what is printed for a file
abbrev pub building_sheet : (file : List ℕ) → List ℕ
building_sheet file = building_text (building_in file)

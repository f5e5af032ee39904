-- Walking a whole building's file, as one definition.
use Rattle.std.specs.Prelude.{List, ℕ, Result, Ok, Err, ⊤, ltb, length}
use Rattle.plain.specs.Pick.{pick}
use Rattle.refusals.specs.Numbers.{high_cost, long_file}
use Rattle.refusals.specs.declared.Refusal.{Refusal}
use Rattle.refusals.specs.Refusal.{refusal, on_outcome}
use Rattle.refusals.specs.Answer.{accepted, refused}
use Rattle.tables.specs.Limits.{cost_max}
use Rattle.files.specs.File.{Walk, walk}
use Rattle.buildings.specs.declared.Building.{Building}
use Rattle.buildings.specs.Counts.{counts_of, no_counts}

-- "a lent slice of up to 1,048,576" bytes
abbrev pub file_max : ℕ
file_max = 1_048_576

-- 26, "cost above 255, before all others"; "27, a longer slice, first"
unfoldable pub before_walking : (size cost : ℕ) → Result ⊤ Refusal
before_walking size cost = pick (ltb cost_max cost) (Err (refusal high_cost 0)) (pick (ltb file_max size) (Err (refusal long_file 0)) (Ok tt))

-- "all counts 0"
abbrev pub uncounted : Refusal → Building
uncounted r = record { answer = refused r; counts = no_counts }

-- the number of records, or the refusal that ended the walk; "the counts cover the records before it"
abbrev pub counted : Walk → (cost : ℕ) → Building
counted w cost = record { answer = on_outcome refused (accepted (length w.records)) w.outcome; counts = counts_of w.records cost }

-- "give back each record as the part of the file it occupies, plan it alone, and print counts"
unfoldable pub building_call : (file : List ℕ) (cost : ℕ) → Building
building_call file cost = on_outcome uncounted (counted (walk file) cost) (before_walking (length file) cost)

-- What the mender's functions return, as the definitions have it.
use Rattle.std.specs.Prelude.{ℕ, Result, Ok, Err}
use Rattle.refusals.specs.declared.Refusal.{Refusal}
use Rattle.listings.specs.declared.Listing.{Listing}
use Rattle.menders.specs.declared.Spot.{Spot}
use Rattle.menders.specs.declared.Counts.{Counts}
use Rattle.tables.specs.declared.TaskTable.{TaskTable}
use Rattle.menders.specs.declared.Draft.{Draft}
use Rattle.menders.specs.Taken.{Step, read}
use Rattle.menders.specs.Listed.{Listed}
use Rattle.menders.specs.Draft.{drawn, undrawn}

-- a value, and the spot that the reader came to
abbrev pub step_to : Result ℕ Refusal → Spot → Step
step_to (Ok value) spot = read value spot
step_to (Err r) spot = Err r

-- a list, and that spot
abbrev pub list_to : Result Listing Refusal → Spot → Result Listed Refusal
list_to (Ok l) spot = Ok (record { set = l.set; reordered = l.reordered; dropped = l.dropped; spot = spot })
list_to (Err r) spot = Err r

-- as a draft: the table that was filled with its counts, or the refusal
abbrev pub drawn_from : TaskTable → Result Counts Refusal → Draft
drawn_from t (Ok counts) = drawn t counts
drawn_from t (Err r) = undrawn r

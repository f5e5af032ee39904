-- Rules of three kinds, tried in turn.
use Rattle.std.specs.Prelude.{Result, Err, ⊤}
use Rattle.refusals.specs.declared.Refusal.{Refusal}
use Rattle.refusals.specs.Refusal.{on_outcome}

-- the first refusal of the three, in document 01's order
abbrev pub in_order : Result ⊤ Refusal → Result ⊤ Refusal → Result ⊤ Refusal → Result ⊤ Refusal
in_order first second third = on_outcome Err (on_outcome Err third second) first

-- A reader that stands at a place of a record.
use Rattle.std.specs.Prelude.{ℕ, Result, Ok, Err}
use Rattle.refusals.specs.declared.Refusal.{Refusal}
use Rattle.records.specs.Step.{Step, read}

-- the step that a reader took: what it returned, and the place at which it stands then
abbrev pub step_to : Result ℕ Refusal → ℕ → Step
step_to (Ok value) next = read value next
step_to (Err r) next = Err r

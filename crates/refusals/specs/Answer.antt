-- What a public call answers, as numbers that C can read.
use Rattle.std.specs.Prelude.{ℕ, Result, Ok, Err}
use Rattle.refusals.specs.declared.Refusal.{Refusal}
use Rattle.refusals.specs.declared.Answer.{Answer}

-- acceptance: refusal 0, and what the call returns (words written, row filled, row freed, 1 for yes and 0 for no); no set of nodes beside it
abbrev pub accepted : ℕ → Answer
accepted value = record { refusal = 0; place = 0; value = value; ring = 0 }

-- "A refusal returns its number and place", and its set of nodes beside them
abbrev pub refused : Refusal → Answer
refused r = record { refusal = r.number; place = r.place; value = 0; ring = r.ring }

-- "a definition gives this paper's number and values for every case of the enum": the value where a call accepts, else the refusal
abbrev pub answered : Result ℕ Refusal → Answer
answered (Ok value) = accepted value
answered (Err r) = refused r

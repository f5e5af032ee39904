-- A step of the reader, and how steps are chained: "A record is read from the left."
use Rattle.std.specs.Prelude.{ℕ, Result, Ok, Err}
use Rattle.refusals.specs.declared.Refusal.{Refusal}
use Rattle.records.specs.declared.Read.{Read}

-- a value with the place after it, or a refusal
abbrev pub Step : Type 0
Step = Result Read Refusal

-- a step that read
abbrev pub read : (value next : ℕ) → Step
read value next = Ok (record { value = value; next = next })

-- a step, and then `more` of its value and the place after it; "a refusal goes straight out with its place"
unfoldable pub and_then : {A : Type 0} → (Refusal → A) → Step → (ℕ → ℕ → A) → A
and_then out (Ok r) more = more r.value r.next
and_then out (Err r) more = out r

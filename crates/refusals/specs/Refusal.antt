-- A refusal, and what goes on where there is none.
use Rattle.std.specs.Prelude.{ℕ, Result, Ok, Err, ⊤}
use Rattle.refusals.specs.declared.Refusal.{Refusal}
use Rattle.refusals.specs.declared.Answer.{Answer}
use Rattle.refusals.specs.Numbers.{loop}

-- "its number and place"; "all other answers show the empty set"
abbrev pub refusal : (number place : ℕ) → Refusal
refusal number place = record { number = number; place = place; ring = 0 }

-- refusal 10: "Give as its place" a node, "with a loop through it shown as a set of nodes beside the answer"
abbrev pub looped : (node ring : ℕ) → Refusal
looped node ring = record { number = loop; place = node; ring = ring }

-- the refusal that an answer tells
abbrev pub refusal_of : Answer → Refusal
refusal_of a = record { number = a.refusal; place = a.place; ring = a.ring }

-- a refusal goes out by `refuse`; where something was accepted, `go` goes on
abbrev pub on_outcome : {A : Type 0} → (Refusal → A) → A → Result ⊤ Refusal → A
on_outcome refuse go (Ok done) = go
on_outcome refuse go (Err r) = refuse r

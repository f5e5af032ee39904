-- What inner functions hand each other, and where the reading has come to with it.
use Rattle.std.specs.Prelude.{ℕ, ◌≡◌, false, List, length, Result, Ok, Err}
use Rattle.plain.specs.Pick.{pick}
use Rattle.refusals.specs.Numbers.{bad_layout}
use Rattle.refusals.specs.declared.Refusal.{Refusal}
use Rattle.refusals.specs.Refusal.{refusal}
use Rattle.graphwords.specs.declared.Number.{Number}
use Rattle.graphwords.specs.declared.Fault.{Fault}
use Rattle.graphwords.specs.declared.Fault.TheVariants.{Ended, Other}
use Rattle.graphwords.specs.Words.{words_at}
use Rattle.graphwords.specs.Inner.Found.{found_in}
use Rattle.graphs.specs.Expected.{between, Next}
use Rattle.graphs.specs.Graph.{no_graph, reading}
use Rattle.graphs.specs.declared.Graph.{Graph}

-- what was taken, and then `more` of it
abbrev pub then_taken : {T A : Type 0} → (Refusal → A) → Result T Refusal → (T → A) → A
then_taken out (Ok taken) more = more taken
then_taken out (Err r) more = out r

-- the word that was found, tried in a range
abbrev pub found_taken : (broken low high size : ℕ) → Result Number Fault → Result Number Refusal
found_taken broken low high size (Ok n) = pick (between low n.value high) (Ok n) (Err (refusal broken n.place))
found_taken broken low high size (Err Ended) = Err (refusal bad_layout size)
found_taken broken low high size (Err (Other place)) = Err (refusal bad_layout place)

-- the first word from a place on
abbrev pub number_taken : (broken low high : ℕ) (text : List ℕ) (from : ℕ) → Result Number Refusal
number_taken broken low high text from = found_taken broken low high (length text) (found_in (words_at text from))

-- what is left of the reading, from a place on
abbrev pub reading_at : (text : List ℕ) → Next → (place : ℕ) → Graph
reading_at text next place = reading (length text) next (words_at text place)

-- the reading goes on from what is expected at a place, over what was taken there, to what it comes to past it
abbrev pub Leads : {T : Type 0} (text : List ℕ) (from : ℕ) → Next → Result T Refusal → (T → Graph) → Type 0
Leads text from next taken more = reading_at text next from ≡ then_taken (no_graph false) taken more

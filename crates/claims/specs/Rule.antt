-- How rules decide an answer: a call's rules stand in the order of document 01, in its own words, and the answer is the first one that holds; so
-- nobody has to trust the order of the tests inside a definition.
use Rattle.std.specs.Prelude.{◌≡◌, ◌⊎◌, ◌↔◌, List, [], ◌∷◌, ℕ}
use Rattle.refusals.specs.declared.Refusal.{Refusal}
use Rattle.refusals.specs.declared.Answer.{Answer}
use Rattle.refusals.specs.Refusal.{refusal}
use Rattle.refusals.specs.Answer.{accepted, refused}

-- a rule of the table "Refusal numbers and their order": which refusals it gives
abbrev pub Rule : Type 1
Rule = Refusal → Type 0

-- a line of the table: its number, its place, and "given when"
abbrev pub rule_at : (number place : ℕ) → Type 0 → Rule
rule_at number place given r = given × (r ≡ refusal number place)

-- most have place 0
abbrev pub rule : ℕ → Type 0 → Rule
rule number given = rule_at number 0 given

-- refusals that a relation has, each with its number and its place
abbrev pub rule_by : (gives : (number place : ℕ) → Type 0) → Rule
rule_by gives r = (number : ℕ) × (place : ℕ) × gives number place × (r ≡ refusal number place)

-- what a list of rules decides: the first that gives a refusal refuses by it; where none does the call is accepted with its value
abbrev pub Decides : List Rule → (ℕ → Type 0) → Answer → Type 0
Decides [] value answer = (v : ℕ) × value v × (answer ≡ accepted v)
Decides (first ∷ later) value answer =
    ((r : Refusal) × first r × (answer ≡ refused r))
    ⊎ (((r : Refusal) → first r → ⊥) × Decides later value answer)

-- a call's answer is what its rules decide, and they decide no other
abbrev pub OnlyWhen : List Rule → (ℕ → Type 0) → Answer → Type 0
OnlyWhen rules value answer = (a : Answer) → Decides rules value a ↔ (a ≡ answer)

-- the answer is no refusal: its number is 0
abbrev pub IsAccepted : Answer → Type 0
IsAccepted answer = answer.refusal ≡ 0

-- the answer is a refusal
abbrev pub IsRefused : Answer → Type 0
IsRefused answer = answer.refusal ≡ 0 → ⊥

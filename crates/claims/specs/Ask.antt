-- All that is promised of asking (`planner_ask`).
use Rattle.std.specs.Prelude.{◌≡◌, ◌⊎◌, List, [], ◌∷◌, ℕ, ◌+◌, ◌-◌, ◌*◌, ◌≤◌, ◌<◌}
use Rattle.refusals.specs.Answer.{accepted}
use Rattle.boards.specs.declared.Row.{Row}
use Rattle.boards.specs.Sound.{Sound}
use Rattle.boards.specs.Verdict.{sum_of, largest_of}
use Rattle.planner.specs.Calls.{ask_call}
use Rattle.planner.specs.Allows.{AskAllows}
use Rattle.claims.specs.Rule.{Rule, rule}
use Rattle.claims.specs.Promise.{Promise}

-- "Asking checks 17, 15"; 15 is "core count is 0 or above 64"
abbrev pub ask_rules : List Row → ℕ → List Rule
ask_rules rows m =
    rule 17 (Sound rows → ⊥)
    ∷ rule 15 ((m ≡ 0) ⊎ (64 < m))
    ∷ []

-- "S + (m − 1) × M ≤ m × 1,000,000"
abbrev pub Fits : List Row → ℕ → Type 0
Fits rows m = sum_of rows + (m - 1) * largest_of rows ≤ m * 1000000

-- "the verdict is yes exactly when" this holds: 1 for yes, 0 for no
abbrev pub yes_when : Type 0 → ℕ → Type 0
yes_when fits v = (fits × (v ≡ 1)) ⊎ ((fits → ⊥) × (v ≡ 0))

-- yes for m cores
abbrev pub SaysYes : List Row → ℕ → Type 0
SaysYes rows m = (ask_call rows m).answer ≡ accepted 1

-- the promise: "asking returns yes or no and writes nothing"
abbrev pub OfAsking : Type 0
OfAsking = (rows : List Row) (m : ℕ) → Promise (AskAllows rows m) rows (ask_rules rows m) (yes_when (Fits rows m)) (λ _. rows)

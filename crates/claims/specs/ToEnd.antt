-- All that is promised of asking for the verdict of steps that run to their end (`planner_ask_to_end`).
use Rattle.std.specs.Prelude.{◌≡◌, List, ℕ, ◌+◌, ◌-◌, ◌*◌, ◌≤◌}
use Rattle.refusals.specs.Answer.{accepted}
use Rattle.boards.specs.declared.Row.{Row}
use Rattle.boards.specs.Verdict.{sum_of, largest_of}
use Rattle.overheads.specs.ToEnd.{overhead_of}
use Rattle.planner.specs.Calls.{ask_to_end_call}
use Rattle.planner.specs.Allows.{AskToEndAllows}
use Rattle.claims.specs.Promise.{Promise}
use Rattle.claims.specs.Ask.{ask_rules, yes_when, SaysYes}

-- "S + (m − 1) × M + m × r ≤ m × 1,000,000"
abbrev pub FitsToEnd : List Row → ℕ → Type 0
FitsToEnd rows m = sum_of rows + (m - 1) * largest_of rows + m * overhead_of rows ≤ m * 1000000

-- yes for m cores
abbrev pub SaysYesToEnd : List Row → ℕ → Type 0
SaysYesToEnd rows m = (ask_to_end_call rows m).answer ≡ accepted 1

-- the promises; "17 and 15 as before"
pub record OfAskingToEnd : Type 0 where
  pub call : (rows : List Row) (m : ℕ) → Promise (AskToEndAllows rows m) rows (ask_rules rows m) (yes_when (FitsToEnd rows m)) (λ _. rows)
  -- "a yes here implies a preemptive yes"
  pub preemptive : (rows : List Row) (m : ℕ) → SaysYesToEnd rows m → SaysYes rows m

-- What the sales sheet promises of the verdicts, and two laws beside it (docs/SALES.md).
use Rattle.std.specs.Prelude.{◌≡◌, ◌↔◌, List, ℕ, ◌≤◌, ◌<◌}
use Rattle.refusals.specs.declared.Answer.{Answer}
use Rattle.refusals.specs.Answer.{accepted}
use Rattle.tables.specs.declared.TaskTable.{TaskTable}
use Rattle.plans.specs.Shares.{density}
use Rattle.boards.specs.declared.Row.{Row}
use Rattle.boards.specs.Row.{row_at}
use Rattle.boards.specs.Sound.{Sound}
use Rattle.claims.specs.Rule.{IsAccepted}
use Rattle.claims.specs.Board.{SomeRow}
use Rattle.claims.specs.Calls.{Call, answer_to, rows_after, empty_day, board_after, standing_after}
use Rattle.claims.specs.Calls.Call.{withdraw, ask, ask_to_end}
use Rattle.claims.specs.Day.{Among}

-- "the same tasks standing, each under the same record" and with the same cost, so the same tables: whichever is among the ones is among the others
abbrev pub SameTasks : List TaskTable → List TaskTable → Type 0
SameTasks ts us = (t : TaskTable) → Among t ts ↔ Among t us

-- a density above one, in millionths
abbrev pub AboveOne : ℕ → Type 0
AboveOne density = 1000000 < density

-- "asking returns yes or no": yes is 1
abbrev pub yes : Answer
yes = accepted 1

-- no is 0
abbrev pub no : Answer
no = accepted 0

-- the promises of one verdict: `answer rows m` is what asking for it answers, for m cores. The rows may be any; a yes is given to sound boards alone
pub record OfVerdict (answer : List Row → ℕ → Answer) : Type 0 where
  -- "a yes for m stays a yes after a withdrawal"
  pub withdrawal : (rows : List Row) (m id : ℕ) → answer rows m ≡ yes → IsAccepted (answer_to (withdraw id) rows) → answer (rows_after (withdraw id) rows) m ≡ yes
  -- "a yes for m is a yes for every larger count up to 64"
  pub larger-count : (rows : List Row) (m n : ℕ) → answer rows m ≡ yes → m ≤ n → n ≤ 64 → answer rows n ≡ yes
  -- "two sequences which leave the same tasks standing .. give equal .. verdicts", whatever else was called, in whatever rows the tasks stand
  pub same-tasks : (calls others : List Call) → SameTasks (standing_after calls) (standing_after others) → (m : ℕ) → answer (board_after calls) m ≡ answer (board_after others) m
  -- a board that holds a density above one is a no for 1 to 64 cores
  pub too-dense : (rows : List Row) (m : ℕ) → Sound rows → SomeRow (λ k. AboveOne (row_at rows k).largest) → 1 ≤ m → m ≤ 64 → answer rows m ≡ no
  -- so is one on which a task stands with such a step
  pub dense-step : (calls : List Call) (t : TaskTable) (v m : ℕ) → Among t (standing_after calls) → v < t.count → AboveOne (density t v) → 1 ≤ m → m ≤ 64 → answer (board_after calls) m ≡ no
  -- the empty board is a yes for 1 to 64 cores
  pub empty-board : (m : ℕ) → 1 ≤ m → m ≤ 64 → answer empty_day.rows m ≡ yes

-- the promises of both: where steps may be interrupted, and where they run to their end
pub record OfSales : Type 0 where
  pub preemptive : OfVerdict (λ rows m. answer_to (ask m) rows)
  pub to_end : OfVerdict (λ rows m. answer_to (ask_to_end m) rows)

-- Demand 3, for every list of calls: what holds of the board, of the tables that stand on it and of every plan that was accepted.
use Rattle.std.specs.Prelude.{◌≡◌, ◌⊎◌, ℕ, ◌+◌, ◌-◌, ◌*◌, ◌≤◌, ◌<◌, max, length}
use mathlib.Core.List.{List, [], ◌∷◌, ◌++◌, Memᴰ}
use Rattle.plain.specs.At.{at}
use Rattle.tables.specs.declared.TaskTable.{TaskTable}
use Rattle.plans.specs.Diagram.{longest}
use Rattle.plans.specs.Shares.{over, deadline}
use Rattle.boards.specs.declared.Row.{Row}
use Rattle.boards.specs.Row.{row_at}
use Rattle.boards.specs.Sound.{Sound}
use Rattle.boards.specs.Fractions.{Fraction, whole, AtMost, times, shortest, exact_overhead, exact_left, ExactYes, exact_left_to_end, ExactYesToEnd}
use Rattle.boards.specs.Nodes.{listed}
use Rattle.admissions.specs.Admission.{row_of}
use Rattle.claims.specs.Plan.{exact_of, exact_deadline, GoodPlan}
use Rattle.claims.specs.Ask.{SaysYes}
use Rattle.claims.specs.ToEnd.{SaysYesToEnd}
use Rattle.claims.specs.Board.{IsFree}
use Rattle.claims.specs.Calls.{Call, board_after, standing_after, admitted_after}

-- t is one of the tables
abbrev pub Among : TaskTable → List TaskTable → Type 0
Among t ts = Memᴰ t ts

-- row k is the row of the table's task: its own plan's seven figures
abbrev pub RowIs : List Row → TaskTable → ℕ → Type 0
RowIs rows t k = row_at rows k ≡ row_of t

-- exactly one of the 16 rows is the table's
pub record OneRow (rows : List Row) (t : TaskTable) : Type 0 where
  pub place : ℕ
  pub within : place < 16
  pub here : RowIs rows t place
  pub only : (k : ℕ) → k < 16 → RowIs rows t k → k ≡ place

-- no table has the id of another
pub data NoIdTwice : List TaskTable → Type 0 where
  none : NoIdTwice []
  more : {t : TaskTable} {ts : List TaskTable} → ((u : TaskTable) → Among u ts → u.id ≡ t.id → ⊥) → NoIdTwice ts → NoIdTwice (t ∷ ts)

-- node v's fraction x t v, for "all nodes of all standing tasks"
unfoldable pub of_all : (TaskTable → ℕ → Fraction) → List TaskTable → List Fraction
of_all x [] = []
of_all x (t ∷ ts) = listed t.count (x t) ++ of_all x ts

-- their unrounded densities
abbrev pub all_nodes : List TaskTable → List Fraction
all_nodes = of_all exact_of

-- "the longest execution .. among all standing nodes"
unfoldable pub longest_run : List TaskTable → ℕ
longest_run [] = 0
longest_run (t ∷ ts) = max (longest t) (longest_run ts)

-- r unrounded: that "over the shortest deadline among all standing nodes"
abbrev pub overhead_of_all : List TaskTable → Fraction
overhead_of_all ts = exact_overhead (longest_run ts) (shortest (of_all exact_deadline ts))

-- the three figures that a row gained: of the nodes that run, "A node with 0 .. isn't counted"
pub record OwnTimes (t : TaskTable) (row : Row) : Type 0 where
  pub longest-here : (v : ℕ) × (v < t.count) × (1 ≤ at t.execution v) × (row.longest ≡ at t.execution v)
  pub longest-most : (v : ℕ) → v < t.count → at t.execution v ≤ row.longest
  pub shortest-here : (v : ℕ) × (v < t.count) × (1 ≤ at t.execution v) × (row.shortest ≡ deadline t v)
  pub shortest-least : (v : ℕ) → v < t.count → 1 ≤ at t.execution v → row.shortest ≤ deadline t v
  pub own-over : row.over ≡ over t

-- "the unrounded left side in millionths is at most m × 1,000,000 − (N + m − 1)", with N nodes
abbrev pub Roomy : ℕ → List Fraction → Type 0
Roomy m xs = AtMost (times 1000000 (exact_left m xs)) (whole (m * 1000000 - (length xs + m - 1)))

-- likewise with m × r on the left side, which may be m millionths too much
abbrev pub RoomyToEnd : ℕ → List Fraction → Fraction → Type 0
RoomyToEnd m xs r = AtMost (times 1000000 (exact_left_to_end m xs r)) (whole (m * 1000000 - (length xs + m - 1 + m)))

-- the sentences of demand 3 about a board, the tables that stand on it and all tables that came in on the way
pub record DayHolds (rows : List Row) (standing admitted : List TaskTable) : Type 0 where
  -- the board is sound
  pub sound : Sound rows
  -- every plan that was accepted keeps what demand 3 says of plans
  pub plans-good : (t : TaskTable) → Among t admitted → GoodPlan t
  -- each standing task has exactly one row, with its plan's figures
  pub one-row : (t : TaskTable) → Among t standing → OneRow rows t
  -- of which three are those of its nodes that run
  pub row-times : (t : TaskTable) → Among t standing → OwnTimes t (row_of t)
  -- every other row is free
  pub others-free : (k : ℕ) → k < 16 → IsFree rows k ⊎ ((t : TaskTable) × Among t standing × RowIs rows t k)
  -- no id stands twice
  pub no-id-twice : NoIdTwice standing
  -- "A yes must imply the same inequality on the unrounded fractions", those of all standing nodes
  pub yes-exact : (m : ℕ) → SaysYes rows m → ExactYes m (all_nodes standing)
  -- "if the unrounded left side .. is at most .., the verdict is yes"
  pub roomy-yes : (m : ℕ) → 1 ≤ m → m ≤ 64 → Roomy m (all_nodes standing) → SaysYes rows m
  -- the same of steps that run to their end: a yes means that Theorem 6's inequality holds, and enough room means a yes
  pub overhead-proper : 0 < (overhead_of_all standing).lower
  pub yes-exact-to-end : (m : ℕ) → SaysYesToEnd rows m → ExactYesToEnd m (all_nodes standing) (overhead_of_all standing)
  pub roomy-yes-to-end : (m : ℕ) → 1 ≤ m → m ≤ 64 → RoomyToEnd m (all_nodes standing) (overhead_of_all standing) → SaysYesToEnd rows m

-- they hold after every list of calls
abbrev pub Day : Type 0
Day = (calls : List Call) → DayHolds (board_after calls) (standing_after calls) (admitted_after calls)

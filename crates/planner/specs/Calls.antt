-- Each public call on a board as one rule, from what it is lent to what it answers and leaves behind. Planning and writing, which take no board, are `plan_call` of plans
-- and `write_call` of writers.
use Rattle.std.specs.Prelude.{List, ℕ}
use Rattle.refusals.specs.After.{After}
use Rattle.boards.specs.declared.Row.{Row}
use Rattle.boards.specs.Change.{changed, answer_to, withdrawn, asked}
use Rattle.overheads.specs.ToEnd.{asked_to_end}
use Rattle.admissions.specs.Admission.{Admission, noting}
use Rattle.guards.specs.Guarded.{admission}

-- what noting and admitting are lent: the plan's words and the board's rows
pub record Lent : Type 0 where
  pub words : List ℕ
  pub rows : List Row

-- what an admission comes to on rows: its answer, its words, and the rows with its change
abbrev pub admitted : List Row → Admission → After Lent
admitted rows a = record { answer = answer_to a.change; lent = record { words = a.words; rows = changed rows a.change } }

-- "admitting writes the same plan words and returns the number (0..15) of the row it filled"
abbrev pub note_call : List ℕ → List ℕ → List Row → (cost : ℕ) → After Lent
note_call bytes words rows cost = admitted rows (noting bytes words rows cost)

-- the same, but "turn away a task that would make the verdict no"
abbrev pub admit_call : List ℕ → List ℕ → List Row → (cores cost : ℕ) → After Lent
admit_call bytes words rows cores cost = admitted rows (admission bytes words rows cores cost)

-- "withdrawing returns the number of the row it freed"
abbrev pub withdraw_call : List Row → ℕ → After (List Row)
withdraw_call rows id = record { answer = answer_to (withdrawn rows id); lent = changed rows (withdrawn rows id) }

-- "asking returns yes or no and writes nothing"
abbrev pub ask_call : List Row → ℕ → After (List Row)
ask_call rows cores = record { answer = asked rows cores; lent = rows }

-- the verdict for steps that run to their end, asked the same way
abbrev pub ask_to_end_call : List Row → ℕ → After (List Row)
ask_to_end_call rows cores = record { answer = asked_to_end rows cores; lent = rows }

-- A day: a list of calls, run from the empty board.
use Rattle.std.specs.Prelude.{List, [], ◌∷◌, ℕ, eqb, replicate}
use Rattle.plain.specs.Pick.{pick}
use Rattle.refusals.specs.declared.Answer.{Answer}
use Rattle.tables.specs.declared.TaskTable.{TaskTable}
use Rattle.boards.specs.declared.Row.{Row}
use Rattle.boards.specs.Row.{free_row}
use Rattle.plans.specs.Calls.{task_of}
use Rattle.planner.specs.Calls.{note_call, admit_call, withdraw_call, ask_call, ask_to_end_call}

-- a call, with what it is lent and told beside the board
pub data Call : Type 0 where
  note : (bytes words : List ℕ) (cost : ℕ) → Call
  admit : (bytes words : List ℕ) (cores cost : ℕ) → Call
  withdraw : (id : ℕ) → Call
  ask : (cores : ℕ) → Call
  ask_to_end : (cores : ℕ) → Call

-- what a call answers, by its own definition; any words may be lent
abbrev pub answer_to : Call → List Row → Answer
answer_to (note bytes words cost) rows = (note_call bytes words rows cost).answer
answer_to (admit bytes words cores cost) rows = (admit_call bytes words rows cores cost).answer
answer_to (withdraw id) rows = (withdraw_call rows id).answer
answer_to (ask cores) rows = (ask_call rows cores).answer
answer_to (ask_to_end cores) rows = (ask_to_end_call rows cores).answer

-- the rows that it leaves
abbrev pub rows_after : Call → List Row → List Row
rows_after (note bytes words cost) rows = (note_call bytes words rows cost).lent.rows
rows_after (admit bytes words cores cost) rows = (admit_call bytes words rows cores cost).lent.rows
rows_after (withdraw id) rows = (withdraw_call rows id).lent
rows_after (ask cores) rows = (ask_call rows cores).lent
rows_after (ask_to_end cores) rows = (ask_to_end_call rows cores).lent

-- the tables without those that have this id
unfoldable pub without : ℕ → List TaskTable → List TaskTable
without id [] = []
without id (t ∷ ts) = pick (eqb t.id id) (without id ts) (t ∷ without id ts)

-- what an accepted call makes of some tables; a refused one leaves them
abbrev pub if_accepted : Answer → (after before : List TaskTable) → List TaskTable
if_accepted answer after before = pick (eqb answer.refusal 0) after before

-- the tables standing after a call: an accepted noting or admission adds its record's table, "with the cost it came in with", an accepted withdrawal takes
-- off the one with its id
abbrev pub next_standing : Call → Answer → List TaskTable → List TaskTable
next_standing (note bytes words cost) answer ts = if_accepted answer (task_of bytes cost ∷ ts) ts
next_standing (admit bytes words cores cost) answer ts = if_accepted answer (task_of bytes cost ∷ ts) ts
next_standing (withdraw id) answer ts = if_accepted answer (without id ts) ts
next_standing (ask cores) answer ts = ts
next_standing (ask_to_end cores) answer ts = ts

-- the tables ever noted or admitted, after a call
abbrev pub next_admitted : Call → Answer → List TaskTable → List TaskTable
next_admitted (note bytes words cost) answer ts = if_accepted answer (task_of bytes cost ∷ ts) ts
next_admitted (admit bytes words cores cost) answer ts = if_accepted answer (task_of bytes cost ∷ ts) ts
next_admitted (withdraw id) answer ts = ts
next_admitted (ask cores) answer ts = ts
next_admitted (ask_to_end cores) answer ts = ts

-- how things stand: the board, the tables standing on it, and all tables that came in so far
pub record State : Type 0 where
  pub rows : List Row
  pub standing : List TaskTable
  pub admitted : List TaskTable

-- the empty board: sixteen free rows, no table
abbrev pub empty_day : State
empty_day = record { rows = replicate 16 free_row; standing = []; admitted = [] }

-- after one call, by its own answer
unfoldable pub after_call : Call → State → State
after_call call s =
    let answer : Answer = answer_to call s.rows in
    record { rows = rows_after call s.rows; standing = next_standing call answer s.standing; admitted = next_admitted call answer s.admitted }

-- after a list of calls, the first one first, each on the board that the last one left
unfoldable pub after_calls : List Call → State → State
after_calls [] s = s
after_calls (call ∷ calls) s = after_calls calls (after_call call s)

-- the board after a day that began with the empty one
abbrev pub board_after : List Call → List Row
board_after calls = (after_calls calls empty_day).rows

-- the tables that stand then
abbrev pub standing_after : List Call → List TaskTable
standing_after calls = (after_calls calls empty_day).standing

-- the tables that came in on the way
abbrev pub admitted_after : List Call → List TaskTable
admitted_after calls = (after_calls calls empty_day).admitted

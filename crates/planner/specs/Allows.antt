-- What each public call allows: "each public call's contract determines the answer and the later content of the plan and board, refusals too".
use Rattle.std.specs.Prelude.{◌≡◌, List, ℕ}
use Rattle.refusals.specs.After.{After}
use Rattle.boards.specs.declared.Row.{Row}
use Rattle.plans.specs.Calls.{plan_call}
use Rattle.writers.specs.Writing.{write_call}
use Rattle.menders.specs.Mending.{Mended, mend_call}
use Rattle.graphs.specs.Record.{graph_call}
use Rattle.buildings.specs.declared.Building.{Building}
use Rattle.buildings.specs.Building.{building_call}
use Rattle.planreaders.specs.Reading.{read_plan_call}
use Rattle.planwriters.specs.Writing.{write_plan_call}
use Rattle.judges.specs.Judging.{judge_call}
use Rattle.planner.specs.Calls.{Lent, note_call, admit_call, withdraw_call, ask_call, ask_to_end_call}

-- planning: its answer, and the words after it
abbrev pub PlanAllows : (bytes words : List ℕ) (cost : ℕ) → After (List ℕ) → Type 0
PlanAllows bytes words cost after = after ≡ plan_call bytes words cost

-- noting: its answer, and the words and the rows after it
abbrev pub NoteAllows : (bytes words : List ℕ) (rows : List Row) (cost : ℕ) → After Lent → Type 0
NoteAllows bytes words rows cost after = after ≡ note_call bytes words rows cost

-- admitting: likewise
abbrev pub AdmitAllows : (bytes words : List ℕ) (rows : List Row) (cores cost : ℕ) → After Lent → Type 0
AdmitAllows bytes words rows cores cost after = after ≡ admit_call bytes words rows cores cost

-- withdrawing: its answer, and the rows after it
abbrev pub WithdrawAllows : (rows : List Row) (id : ℕ) → After (List Row) → Type 0
WithdrawAllows rows id after = after ≡ withdraw_call rows id

-- asking: its answer, and the rows, which are those before it
abbrev pub AskAllows : (rows : List Row) (cores : ℕ) → After (List Row) → Type 0
AskAllows rows cores after = after ≡ ask_call rows cores

-- asking to the end: likewise
abbrev pub AskToEndAllows : (rows : List Row) (cores : ℕ) → After (List Row) → Type 0
AskToEndAllows rows cores after = after ≡ ask_to_end_call rows cores

-- writing a record: its answer, and the bytes after it
abbrev pub WriteAllows : (executions parents bytes : List ℕ) (edition id period : ℕ) → After (List ℕ) → Type 0
WriteAllows executions parents bytes edition id period after = after ≡ write_call executions parents bytes edition id period

-- mending a record: its answer, the bytes after it, and the counts
abbrev pub MendAllows : (given bytes : List ℕ) → Mended → Type 0
MendAllows given bytes mended = mended ≡ mend_call given bytes

-- reading a graph: its answer, and the bytes after it
abbrev pub GraphAllows : (text bytes : List ℕ) (id period : ℕ) → After (List ℕ) → Type 0
GraphAllows text bytes id period after = after ≡ graph_call text bytes id period

-- walking a building's file: its answer, and the counts; the file is lent to be read
abbrev pub BuildingAllows : (file : List ℕ) (cost : ℕ) → Building → Type 0
BuildingAllows file cost building = building ≡ building_call file cost

-- reading a plan record: its answer, and the words after it
abbrev pub ReadPlanAllows : (plan words : List ℕ) → After (List ℕ) → Type 0
ReadPlanAllows plan words after = after ≡ read_plan_call plan words

-- writing a plan record: its answer, and the bytes after it
abbrev pub WritePlanAllows : (words bytes : List ℕ) (id : ℕ) → After (List ℕ) → Type 0
WritePlanAllows words bytes id after = after ≡ write_plan_call words bytes id

-- judging a plan: its answer, and the words after it
abbrev pub JudgeAllows : (bytes plan words : List ℕ) (cost : ℕ) → After (List ℕ) → Type 0
JudgeAllows bytes plan words cost after = after ≡ judge_call bytes plan words cost

-- Writing as one definition: 19 "before all others where the lists differ in length"; 3 to 8; 21 "after 8 and before a short buffer"; 19 "after all others,
-- where it is too short".
use Rattle.std.specs.Prelude.{ℕ, ◌-◌, Bool, List, ◌++◌, eqb, ltb, length, drop, replicate, Result, Ok, Err, ⊤}
use Rattle.plain.specs.Pick.{pick}
use Rattle.refusals.specs.Numbers.{wrong_length, none_runs}
use Rattle.refusals.specs.declared.Refusal.{Refusal}
use Rattle.refusals.specs.Refusal.{refusal, on_outcome}
use Rattle.refusals.specs.InOrder.{in_order}
use Rattle.refusals.specs.Answer.{accepted, refused}
use Rattle.refusals.specs.After.{After}
use Rattle.tables.specs.declared.TaskTable.{TaskTable}
use Rattle.tables.specs.Limits.{count_max}
use Rattle.tables.specs.Runs.{all_zero}
use Rattle.writers.specs.Record.{numbers_of, record_of}
use Rattle.writers.specs.Ranges.{ranges}

-- "64 execution times and 64 parent sets .. Entries past the node count are 0."
abbrev pub filled : List ℕ → List ℕ
filled l = l ++ replicate (count_max - length l) 0

-- the table of "id, period, a list of executions and a list of parent sets", with its edition; the lists' length is the node count
abbrev pub table_of : (executions parents : List ℕ) (edition id period : ℕ) → TaskTable
table_of executions parents edition id period = record {
  edition = edition;
  id = id;
  period = period;
  count = length executions;
  execution = filled executions;
  parents = filled parents;
}

-- whether something was refused, without the value
abbrev pub outcome_of : Result ℕ Refusal → Result ⊤ Refusal
outcome_of (Ok value) = Ok tt
outcome_of (Err r) = Err r

-- a rule: where it is broken, its refusal
abbrev pub unless : (broken : Bool) (number place : ℕ) → Result ⊤ Refusal
unless broken number place = pick broken (Err (refusal number place)) (Ok tt)

-- what is tried of a table and a buffer: its ranges; 21, "all executions are 0", at 0; 19, the buffer "is too short", at its length
unfoldable pub before_writing : TaskTable → (bytes : List ℕ) → Result ⊤ Refusal
before_writing t bytes =
    in_order (ranges (numbers_of t))
    (unless (all_zero t.execution t.count) none_runs 0)
    (unless (ltb (length bytes) (length (record_of t))) wrong_length (length bytes))

-- "nothing is written then"
abbrev pub unwritten : List ℕ → Refusal → After (List ℕ)
unwritten bytes r = record { answer = refused r; lent = bytes }

-- the value is the number of bytes written; the bytes past them keep their content
abbrev pub record_put : List ℕ → TaskTable → After (List ℕ)
record_put bytes t = record { answer = accepted (length (record_of t)); lent = record_of t ++ drop (length (record_of t)) bytes }

-- a table written "into a lent byte buffer"
unfoldable pub writing : TaskTable → (bytes : List ℕ) → After (List ℕ)
writing t bytes = on_outcome (unwritten bytes) (record_put bytes t) (before_writing t bytes)

-- "a writer from id, period, a list of executions and a list of parent sets"
unfoldable pub write_call : (executions parents bytes : List ℕ) (edition id period : ℕ) → After (List ℕ)
write_call executions parents bytes edition id period =
    pick (eqb (length executions) (length parents))
    (writing (table_of executions parents edition id period) bytes)
    (unwritten bytes (refusal wrong_length 0))

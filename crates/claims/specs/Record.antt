-- Demand 2, of a record: its rules, shared by the calls that take one, and what the reader does with it.
use Rattle.std.specs.Prelude.{◌≡◌, true, ◌↔◌, List, [], ◌∷◌, ℕ, ◌≤◌, ◌<◌, length, drop, Err}
use Rattle.refusals.specs.declared.Refusal.{Refusal}
use Rattle.refusals.specs.declared.Answer.{Answer}
use Rattle.refusals.specs.Refusal.{refusal, looped}
use Rattle.refusals.specs.Readers.{is_readers}
use Rattle.tables.specs.declared.TaskTable.{TaskTable}
use Rattle.tables.specs.Table.{empty_table}
use Rattle.tables.specs.Runs.{AllZero}
use Rattle.records.specs.Nodes.{table_read}
use Rattle.records.specs.Reading.{reading_of}
use Rattle.numbers.specs.Number.{record_more}
use Rattle.numbers.specs.Form.{Long, Padded}
use Rattle.numbers.specs.Shortest.{Bytes}
use Rattle.records.specs.Expected.{Due, Expects, Refuses, Spelt}
use Rattle.records.specs.Expected.Next.{number, nothing}
use Rattle.writers.specs.Record.{Spells}
use Rattle.rings.specs.Ring.{ring}
use Rattle.rings.specs.Round.{Smallest, Round}
use Rattle.plans.specs.Diagram.{path}
use Rattle.plans.specs.Calls.{task_of}
use Rattle.claims.specs.Rule.{Rule, rule, rule_by}

-- the reader's refusals "as met": what is expected at a place that was reached has a fault, bytes follow, or all executions are 0
abbrev pub reader_rule : List ℕ → Rule
reader_rule bytes = rule_by (Refuses bytes)

-- 10, "some node is reached from itself": its place is the smallest such node; which of the loops through it stands beside it, `ring` says
abbrev pub loop_rule : TaskTable → Rule
loop_rule t r = (node : ℕ) × Smallest t.parents node × (r ≡ looped node (ring t.parents t.count node))

-- the reader's; 10; 11, "the path is longer than the period"
abbrev pub record_rules : List ℕ → (cost : ℕ) → List Rule
record_rules bytes cost =
    reader_rule bytes
    ∷ loop_rule (task_of bytes cost)
    ∷ rule 11 ((task_of bytes cost).period < path (task_of bytes cost))
    ∷ []

-- an answer with refusal 10 names "the smallest node that is reached from itself", and shows "a loop through it", whichever is chosen
pub record NamesLoop (t : TaskTable) (answer : Answer) : Type 0 where
  pub smallest : Smallest t.parents answer.place
  pub round : Round t.parents answer.place answer.ring

-- "number's first byte": a number is expected at this place, and its bytes from there on have the fault
abbrev pub Faulty : (fault : List ℕ → Type 0) → (bytes : List ℕ) (place : ℕ) → Type 0
Faulty fault bytes place = (due : Due) × Expects bytes place (number due) × fault (drop place bytes)

-- every number is fine, nothing follows, and "all executions are 0", which edition 2 alone lets them be; told at 0
abbrev pub NoneRuns : (bytes : List ℕ) (place : ℕ) → Type 0
NoneRuns bytes place = (place ≡ 0) × (t : TaskTable) × Expects bytes (length bytes) (nothing t) × (t.edition ≡ 2) × AllZero t

-- what is promised of the reader
pub record OfReading : Type 0 where
  -- it refuses a record by a number at a place exactly where a rule of the table gives that
  pub refuses : (bytes : List ℕ) (number place : ℕ) → ((reading_of bytes).outcome ≡ Err (refusal number place)) ↔ Refuses bytes number place
  -- 2 exactly where "a fourth byte has its top bit set", and 18 exactly where "the form isn't the shortest", at that number
  pub long : (bytes : List ℕ) (place : ℕ) → ((reading_of bytes).outcome ≡ Err (refusal 2 place)) ↔ Faulty (Long record_more) bytes place
  pub padded : (bytes : List ℕ) (place : ℕ) → ((reading_of bytes).outcome ≡ Err (refusal 18 place)) ↔ Faulty (Padded record_more) bytes place
  -- 21 exactly where no node runs
  pub nothing_runs : (bytes : List ℕ) (place : ℕ) → ((reading_of bytes).outcome ≡ Err (refusal 21 place)) ↔ NoneRuns bytes place
  -- it accepts a record exactly where its numbers are all fine and spell a table, of which some node runs
  pub accepts : (bytes : List ℕ) (t : TaskTable) → (reading_of bytes ≡ table_read t) ↔ Spelt bytes t
  -- so it reads a table exactly from the record that spells it: the bytes that are written of a table in range
  pub reads : (bytes : List ℕ) (t : TaskTable) → Bytes bytes → (reading_of bytes ≡ table_read t) ↔ Spells bytes t
  -- its refusals are its own numbers, at a byte of the record or at its end
  pub own : (bytes : List ℕ) (number place : ℕ) → Refuses bytes number place → (is_readers number ≡ true) × (place ≤ length bytes)
  -- "and with them, from any reader of a table, a table that is all zeros"
  pub empty : (bytes : List ℕ) (r : Refusal) → (reading_of bytes).outcome ≡ Err r → (reading_of bytes).table ≡ empty_table

-- All that is promised of writing a record (`planner_write_record`).
use Rattle.std.specs.Prelude.{◌≡◌, List, [], ◌∷◌, ◌++◌, ℕ, suc, ◌^◌, ◌≤◌, ◌<◌, length, take, drop, Ok, Err}
use Rattle.plain.specs.At.{at}
use Rattle.refusals.specs.declared.Refusal.{Refusal}
use Rattle.refusals.specs.Answer.{accepted}
use Rattle.refusals.specs.After.{After}
use Rattle.tables.specs.declared.TaskTable.{TaskTable}
use Rattle.tables.specs.Runs.{AllZero}
use Rattle.numbers.specs.Number.{number, record_more, worth}
use Rattle.numbers.specs.Shortest.{Bytes, shortest}
use Rattle.records.specs.Nodes.{table_read}
use Rattle.records.specs.Reading.{reading_of}
use Rattle.writers.specs.Record.{numbers_of, record_of}
use Rattle.writers.specs.Stands.{Outside}
use Rattle.writers.specs.Writing.{table_of}
use Rattle.planner.specs.Allows.{WriteAllows}
use Rattle.claims.specs.Rule.{Rule, rule_at, rule, rule_by, IsAccepted}
use Rattle.claims.specs.Promise.{Promise}

-- 3 to 8, "in the order in which the record would meet them, with place set to the byte at which that number would have stood"
abbrev pub range_rule : TaskTable → Rule
range_rule t = rule_by (Outside (numbers_of t))

-- "19 at place 0 before all others where the lists differ in length"; the ranges; 21, "all executions are 0", "after 8 and before a short buffer"; "19 at the
-- buffer's length, after all others, where it is too short"
abbrev pub write_rules : (executions parents bytes : List ℕ) → TaskTable → List Rule
write_rules executions parents bytes t =
    rule 19 (length executions ≡ length parents → ⊥)
    ∷ range_rule t
    ∷ rule 21 (AllZero t)
    ∷ rule_at 19 (length bytes) (length bytes < length (record_of t))
    ∷ []

-- the value is the number of bytes written
abbrev pub write_value : TaskTable → ℕ → Type 0
write_value t v = v ≡ length (record_of t)

-- the lent bytes with a record at their front: bytes past it keep their content
abbrev pub with_record : (s bytes : List ℕ) → List ℕ
with_record s bytes = s ++ drop (length s) bytes

-- "a set being one 64-bit word"
abbrev pub Words : List ℕ → Type 0
Words sets = (v : ℕ) → at sets v < 2 ^ 64

-- every number is small enough to be written in four groups at all
abbrev pub Small : TaskTable → Type 0
Small t = (k : ℕ) → at (numbers_of t) k < 128 ^ suc record_more

-- the promises
pub record OfWriting : Type 0 where
  pub call : (executions parents bytes : List ℕ) (edition id period : ℕ) → (let t = table_of executions parents edition id period in
      Promise (WriteAllows executions parents bytes edition id period) bytes (write_rules executions parents bytes t) (write_value t) (λ _. with_record (record_of t) bytes))
  -- "What it writes reads back as the same table"
  pub back : (executions parents bytes : List ℕ) (edition id period : ℕ) (a : After (List ℕ)) → Words parents →
      WriteAllows executions parents bytes edition id period a → IsAccepted a.answer →
      reading_of (take a.answer.value a.lent) ≡ table_read (table_of executions parents edition id period)
  -- "any record that the reader accepts is written again byte for byte" from its table, where there is room for it
  pub again : (s bytes : List ℕ) (t : TaskTable) (a : After (List ℕ)) → Bytes s → reading_of s ≡ table_read t → length s ≤ length bytes →
      WriteAllows (take t.count t.execution) (take t.count t.parents) bytes t.edition t.id t.period a →
      a ≡ record { answer = accepted (length s); lent = with_record s bytes }
  -- so no two records have one table
  pub one-record : (s r : List ℕ) (t : TaskTable) → Bytes s → Bytes r → reading_of s ≡ table_read t → reading_of r ≡ table_read t → s ≡ r
  -- a buffer of so many bytes is never too short
  pub longest : (executions parents bytes : List ℕ) (edition id period : ℕ) (a : After (List ℕ)) → Words parents →
      WriteAllows executions parents bytes edition id period a → IsAccepted a.answer → a.answer.value ≤ 4361
  -- the record would meet them so: where a reader is given the bytes of a table, it refuses the same number at the same place
  pub as-met : (t : TaskTable) (r : Refusal) → Small t → range_rule t r → (reading_of (record_of t)).outcome ≡ Err r
  -- the writer of a number and its reader are each other's inverse, whatever the number of groups
  pub number-back : (more v : ℕ) (rest : List ℕ) → v < 128 ^ suc more → number more (shortest more v ++ rest) ≡ Ok (worth v (length (shortest more v)))
  pub number-again : (more v n : ℕ) (s : List ℕ) → Bytes s → number more s ≡ Ok (worth v n) → take n s ≡ shortest more v

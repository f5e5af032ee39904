-- All that is promised of mending a record (`planner_mend`).
use Rattle.std.specs.Prelude.{◌≡◌, List, [], ◌∷◌, ℕ, ◌≤◌, ◌<◌, length, take}
use Rattle.plain.specs.At.{at}
use Rattle.refusals.specs.Answer.{accepted}
use Rattle.refusals.specs.After.{After}
use Rattle.sets.specs.Member.{is_member}
use Rattle.tables.specs.declared.TaskTable.{TaskTable}
use Rattle.tables.specs.Runs.{AllZero}
use Rattle.numbers.specs.Shortest.{Bytes}
use Rattle.records.specs.Nodes.{table_read}
use Rattle.records.specs.Reading.{reading_of}
use Rattle.writers.specs.Record.{record_of}
use Rattle.listings.specs.Lists.{is_listed, list_set}
use Rattle.menders.specs.declared.Counts.{Counts}
use Rattle.menders.specs.Draft.{no_counts, draft_of}
use Rattle.menders.specs.Given.{Refuses, Gives, list_at, counts_of}
use Rattle.menders.specs.Mending.{Mended}
use Rattle.planner.specs.Allows.{MendAllows}
use Rattle.claims.specs.Rule.{Rule, rule_at, rule, rule_by, IsAccepted, IsRefused}
use Rattle.claims.specs.Promise.{Promise}
use Rattle.claims.specs.Write.{write_value, with_record}

-- "Refusals: the reader's, less 18 and the order rule in 8": 1 to 9, as met
abbrev pub given_rule : List ℕ → Rule
given_rule given = rule_by (Refuses given)

-- these; then 21, "all executions are 0"; "19 last, for a short buffer", at its length
abbrev pub mend_rules : (given bytes : List ℕ) → TaskTable → List Rule
mend_rules given bytes t =
    given_rule given
    ∷ rule 21 (AllZero t)
    ∷ rule_at 19 (length bytes) (length bytes < length (record_of t))
    ∷ []

-- the answer and the lent bytes, whatever the counts are
abbrev pub Leaves : (given bytes : List ℕ) → After (List ℕ) → Type 0
Leaves given bytes a = (counts : Counts) × MendAllows given bytes (record { after = a; counts = counts })

-- the bytes that were written
abbrev pub front : Mended → List ℕ
front m = take m.after.answer.value m.after.lent

-- s at the front of the bytes, and "three zeros"
abbrev pub unchanged : (s bytes : List ℕ) → Mended
unchanged s bytes = record { after = record { answer = accepted (length s); lent = with_record s bytes }; counts = no_counts }

-- how the given record was read: its table, and the three counts over its numbers and lists
pub record Counted (given : List ℕ) (t : TaskTable) (counts : Counts) : Type 0 where
  pub padded : ℕ
  pub lists : List (List ℕ)
  pub gives : Gives given t padded lists
  pub is : counts ≡ counts_of padded lists
  -- "each node's set of parents stays the same": that of its list
  pub sets : (i : ℕ) → i < t.count → at t.parents i ≡ list_set (list_at lists i)

-- the promises
pub record OfMending : Type 0 where
  pub call : (given bytes : List ℕ) → (let t = (draft_of given).table in
      Promise (Leaves given bytes) bytes (mend_rules given bytes t) (write_value t) (λ _. with_record (record_of t) bytes))
  -- the given record is refused by 1 to 9, at a byte of it or at its end: never by 18, and 10 and 11 are not the mender's
  pub own : (given : List ℕ) (number place : ℕ) → Refuses given number place → (1 ≤ number) × (number ≤ 9) × (place ≤ length given)
  -- the contract determines the counts, too
  pub one-mending : (given bytes : List ℕ) (m m' : Mended) → MendAllows given bytes m → MendAllows given bytes m' → m ≡ m'
  -- "Report three counts over the given record"; a refusal has none
  pub counted : (given bytes : List ℕ) (m : Mended) → MendAllows given bytes m → IsAccepted m.after.answer → Counted given (draft_of given).table m.counts
  pub uncounted : (given bytes : List ℕ) (m : Mended) → MendAllows given bytes m → IsRefused m.after.answer → m.counts ≡ no_counts
  -- no record is given in two ways: it has one table, one number of padded numbers and one list for each node
  pub one_way : (given : List ℕ) (t u : TaskTable) (padded padded' : ℕ) (lists lists' : List (List ℕ)) → Gives given t padded lists → Gives given u padded' lists' →
      (t ≡ u) × (padded ≡ padded') × (lists ≡ lists')
  -- a parent is in the set of its list just where it is listed
  pub listed : (list : List ℕ) (k : ℕ) → k < 64 → is_member k (list_set list) ≡ is_listed list k
  -- "A record that the reader accepts comes back equal with three zeros", where there is room for it
  pub strict : (s bytes : List ℕ) (t : TaskTable) (m : Mended) → Bytes s → reading_of s ≡ table_read t → length s ≤ length bytes → MendAllows s bytes m → m ≡ unchanged s bytes
  -- what is written is a record that the reader accepts, with the table that was read
  pub back : (given bytes : List ℕ) (m : Mended) → MendAllows given bytes m → IsAccepted m.after.answer → reading_of (front m) ≡ table_read (draft_of given).table
  -- "mending twice equals mending once", and the second time counts three zeros
  pub twice : (given bytes again : List ℕ) (m m' : Mended) → MendAllows given bytes m → IsAccepted m.after.answer → length (front m) ≤ length again →
      MendAllows (front m) again m' → m' ≡ unchanged (front m) again
  -- a buffer of so many bytes is never too short
  pub longest : (given bytes : List ℕ) (m : Mended) → MendAllows given bytes m → IsAccepted m.after.answer → m.after.answer.value ≤ 4361

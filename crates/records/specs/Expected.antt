-- A record from the left: which number is expected at which place, and what is refused there.
use Rattle.std.specs.Prelude.{ℕ, zero, suc, ◌+◌, ◌-◌, ◌^◌, ◌≤◌, ◌<◌, ◌⊎◌, List, length, drop, ltb}
use Rattle.plain.specs.Pick.{pick}
use Rattle.refusals.specs.Numbers.{ended, too_long, bad_edition, bad_id, bad_period, bad_count, bad_execution, bad_parent, bytes_follow, not_shortest, none_runs}
use Rattle.tables.specs.declared.TaskTable.{TaskTable}
use Rattle.tables.specs.Limits.{edition_max, id_max, period_max, count_max, execution_max, least_execution}
use Rattle.tables.specs.Runs.{AllZero, SomeRuns}
use Rattle.numbers.specs.Number.{record_more}
use Rattle.numbers.specs.Form.{Whole, Ends, Long, Padded}
use Rattle.records.specs.Nodes.{with_node}
use Rattle.records.specs.Reading.{headed}

-- a number of the record, and what was read before it: t has the nodes before node i; of its parents, `left` more follow this one, which is at least `low`
pub data Due : Type 0 where
  edition : Due
  id : (edition : ℕ) → Due
  period : (edition id : ℕ) → Due
  count : (edition id period : ℕ) → Due
  execution : (t : TaskTable) (i : ℕ) → Due
  parent_count : (t : TaskTable) (i execution : ℕ) → Due
  parent : (t : TaskTable) (i execution left low set : ℕ) → Due

-- "outside its range": low..high, and the refusal of what is outside
pub record Range : Type 0 where
  pub broken : ℕ
  pub low : ℕ
  pub high : ℕ

-- "edition", 1 or 2, "task id (1..65,535); .. its parent count (0..n) and that many parent numbers, each below n and strictly ascending", and refusals 3 to 8
abbrev pub range : Due → Range
range edition = record { broken = bad_edition; low = 1; high = edition_max }
range (id x) = record { broken = bad_id; low = 1; high = id_max }
range (period x d) = record { broken = bad_period; low = 1; high = period_max }
range (count x d p) = record { broken = bad_count; low = 1; high = count_max }
range (execution t i) = record { broken = bad_execution; low = least_execution t.edition; high = execution_max }
range (parent_count t i e) = record { broken = bad_parent; low = 0; high = t.count }
range (parent t i e left low set) = record { broken = bad_parent; low = low; high = t.count - 1 }

-- what is expected at a place: a number, or "Nothing follows."
pub data Next : Type 0 where
  number : Due → Next
  nothing : TaskTable → Next

-- "for each node 0..n-1": node i, if there is one
abbrev pub node_from : TaskTable → (i : ℕ) → Next
node_from t i = pick (ltb i t.count) (number (execution t i)) (nothing t)

-- "and that many parent numbers": one of so many, or the next node
abbrev pub parent_from : TaskTable → (i execution many low set : ℕ) → Next
parent_from t i e zero low set = node_from (with_node t i e set) (i + 1)
parent_from t i e (suc left) low set = number (parent t i e left low set)

-- "A record is, in order": what is expected after v
abbrev pub after : Due → (v : ℕ) → Next
after edition v = number (id v)
after (id x) v = number (period x v)
after (period x d) v = number (count x d v)
after (count x d p) v = node_from (headed x d p v) 0
after (execution t i) v = number (parent_count t i v)
after (parent_count t i e) v = parent_from t i e v 0 0
after (parent t i e left low set) v = parent_from t i e left (v + 1) (set + 2 ^ v)

-- "A record is read from the left.": what is expected at a place, reached over numbers that are whole, shortest and in range
pub data Expects (bytes : List ℕ) : (place : ℕ) → Next → Type 0 where
  begin : Expects bytes 0 (number edition)
  on : {place v n : ℕ} {due : Due} → Expects bytes place (number due) → Whole record_more (drop place bytes) v n → (range due).low ≤ v → v ≤ (range due).high → Expects bytes (place + n) (after due v)

-- "Refusal numbers and their order", 1 to 9, 18 and 21: the number, and the place that is told with it
pub data Refuses (bytes : List ℕ) : (number place : ℕ) → Type 0 where
  ends : {place : ℕ} {due : Due} → Expects bytes place (number due) → Ends record_more (drop place bytes) → Refuses bytes ended (length bytes)
  long : {place : ℕ} {due : Due} → Expects bytes place (number due) → Long record_more (drop place bytes) → Refuses bytes too_long place
  padded : {place : ℕ} {due : Due} → Expects bytes place (number due) → Padded record_more (drop place bytes) → Refuses bytes not_shortest place
  outside : {place v n : ℕ} {due : Due} → Expects bytes place (number due) → Whole record_more (drop place bytes) v n → (v < (range due).low) ⊎ ((range due).high < v) → Refuses bytes (range due).broken place
  follow : {place : ℕ} {t : TaskTable} → Expects bytes place (nothing t) → place < length bytes → Refuses bytes bytes_follow place
  nothing_runs : {t : TaskTable} → Expects bytes (length bytes) (nothing t) → AllZero t → Refuses bytes none_runs 0

-- every number is fine, "Nothing follows." and some node runs: t is the table that the numbers spell
abbrev pub Spelt : List ℕ → (t : TaskTable) → Type 0
Spelt bytes t = Expects bytes (length bytes) (nothing t) × SomeRuns t

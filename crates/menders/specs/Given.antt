-- A given record from the left: which number is expected at which place, what is refused there, and which lists were given.
use Rattle.std.specs.Prelude.{ℕ, zero, suc, ◌+◌, ◌-◌, ◌≤◌, ◌<◌, ◌⊎◌, List, [], ◌∷◌, ◌++◌, length, drop, get_or, ltb}
use Rattle.plain.specs.Pick.{pick}
use Rattle.plain.specs.Sums.{total}
use Rattle.refusals.specs.Numbers.{ended, too_long, bad_parent, bytes_follow}
use Rattle.tables.specs.declared.TaskTable.{TaskTable}
use Rattle.numbers.specs.Number.{record_more}
use Rattle.numbers.specs.Form.{AnyForm, Whole, Ends, Long, Padded}
use Rattle.records.specs.Nodes.{with_node}
use Rattle.records.specs.Reading.{headed}
use Rattle.records.specs.Expected as reader
use Rattle.menders.specs.declared.Counts.{Counts}
use Rattle.listings.specs.Lists.{given_max, list_set, reordered, dropped}

-- a number of the record, and what was read before it: t has the nodes before node i, and `lists` their parents as given; of its own parents `given`
-- came before this one, and `left` more follow it
pub data Due : Type 0 where
  edition : Due
  id : (edition : ℕ) → Due
  period : (edition id : ℕ) → Due
  count : (edition id period : ℕ) → Due
  execution : (t : TaskTable) (i : ℕ) (lists : List (List ℕ)) → Due
  parent_count : (t : TaskTable) (i : ℕ) (lists : List (List ℕ)) (execution : ℕ) → Due
  parent : (t : TaskTable) (i : ℕ) (lists : List (List ℕ)) (execution left : ℕ) (given : List ℕ) → Due

-- "Refusals: the reader's, less 18 and the order rule in 8": its ranges, but for a parent count, "at most 255", and a parent, which is any node
abbrev pub range : Due → reader.Range
range edition = reader.range reader.Due.edition
range (id x) = reader.range (reader.Due.id x)
range (period x d) = reader.range (reader.Due.period x d)
range (count x d p) = reader.range (reader.Due.count x d p)
range (execution t i lists) = reader.range (reader.Due.execution t i)
range (parent_count t i lists e) = record { broken = bad_parent; low = 0; high = given_max }
range (parent t i lists e left given) = record { broken = bad_parent; low = 0; high = t.count - 1 }

-- what is expected at a place: a number, or "Nothing follows."
pub data Next : Type 0 where
  number : Due → Next
  nothing : (t : TaskTable) (lists : List (List ℕ)) → Next

-- "for each node 0..n-1": node i, if there is one
abbrev pub node_from : TaskTable → (i : ℕ) → List (List ℕ) → Next
node_from t i lists = pick (ltb i t.count) (number (execution t i lists)) (nothing t lists)

-- "and that many parent numbers": one of so many, or the next node; "each node's set of parents" is the set of its list
abbrev pub parent_from : TaskTable → (i : ℕ) → List (List ℕ) → (execution many : ℕ) (given : List ℕ) → Next
parent_from t i lists e zero given = node_from (with_node t i e (list_set given)) (i + 1) (lists ++ given ∷ [])
parent_from t i lists e (suc left) given = number (parent t i lists e left given)

-- "A record is, in order": what is expected after v
abbrev pub after : Due → (v : ℕ) → Next
after edition v = number (id v)
after (id x) v = number (period x v)
after (period x d) v = number (count x d v)
after (count x d p) v = node_from (headed x d p v) 0 []
after (execution t i lists) v = number (parent_count t i lists v)
after (parent_count t i lists e) v = parent_from t i lists e v []
after (parent t i lists e left given) v = parent_from t i lists e left (given ++ v ∷ [])

-- "numbers of at most four bytes", in any form: n bytes at the front that are worth v; where the form is not the shortest it counts 1 as padded, else 0
pub data Number (s : List ℕ) : (v n padded : ℕ) → Type 0 where
  as-shortest : {v n : ℕ} → Whole record_more s v n → Number s v n 0
  as-padded : {v n : ℕ} → Padded record_more s → AnyForm s v n → Number s v n 1

-- "A record is read from the left.": what is expected at a place, reached over numbers that are in range, so many of them padded
pub data Meets (bytes : List ℕ) : (place padded : ℕ) → Next → Type 0 where
  begin : Meets bytes 0 0 (number edition)
  on : {place padded v n more : ℕ} {due : Due} → Meets bytes place padded (number due) → Number (drop place bytes) v n more →
      (range due).low ≤ v → v ≤ (range due).high → Meets bytes (place + n) (padded + more) (after due v)

-- the refusals 1 to 9: the number, and the place that is told with it
pub data Refuses (bytes : List ℕ) : (number place : ℕ) → Type 0 where
  ends : {place padded : ℕ} {due : Due} → Meets bytes place padded (number due) → Ends record_more (drop place bytes) → Refuses bytes ended (length bytes)
  long : {place padded : ℕ} {due : Due} → Meets bytes place padded (number due) → Long record_more (drop place bytes) → Refuses bytes too_long place
  outside : {place padded v n more : ℕ} {due : Due} → Meets bytes place padded (number due) → Number (drop place bytes) v n more →
      (v < (range due).low) ⊎ ((range due).high < v) → Refuses bytes (range due).broken place
  follow : {place padded : ℕ} {t : TaskTable} {lists : List (List ℕ)} → Meets bytes place padded (nothing t lists) → place < length bytes → Refuses bytes bytes_follow place

-- every number is fine and nothing follows: the table, the numbers that are padded and the lists as given
abbrev pub Gives : List ℕ → (t : TaskTable) (padded : ℕ) (lists : List (List ℕ)) → Type 0
Gives bytes t padded lists = Meets bytes (length bytes) padded (nothing t lists)

-- the list of node i
abbrev pub list_at : List (List ℕ) → (i : ℕ) → List ℕ
list_at lists i = get_or lists i []

-- "three counts over the given record"
abbrev pub counts_of : (padded : ℕ) (lists : List (List ℕ)) → Counts
counts_of padded lists = record { padded = padded; reordered = total reordered lists; dropped = total dropped lists }

-- The text of a graph from the left: which word is expected next, and what it may say.
use Rattle.std.specs.Prelude.{ℕ, zero, suc, ◌+◌, ◌-◌, Bool, false, not, ◌&&◌, List, [], ◌∷◌, ◌++◌, leb, ltb}
use Rattle.plain.specs.Pick.{pick}
use Rattle.refusals.specs.Numbers.{bad_execution, bad_parent, bad_layout, many_tasks}
use Rattle.tables.specs.declared.TaskTable.{TaskTable}
use Rattle.tables.specs.Limits.{count_max, execution_max}
use Rattle.records.specs.Nodes.{with_node}
use Rattle.records.specs.Reading.{headed}
use Rattle.records.specs.Expected.{Range}
use Rattle.listings.specs.Lists.{is_listed, list_set}

-- "the result is an edition 2 table"
abbrev pub edition : ℕ
edition = 2

-- "one dummy entry and one dummy exit"
abbrev pub dummies : ℕ
dummies = 2

-- "a count above 62": with the dummies there are at most 64 nodes
abbrev pub tasks_max : ℕ
tasks_max = count_max - dummies

-- a word of the text, and what was read before it: t has the tasks before task i; of its predecessors `given` came before this one, and `left` more follow it
pub data Due : Type 0 where
  count : (id period : ℕ) → Due
  number : (t : TaskTable) (i : ℕ) → Due
  time : (t : TaskTable) (i : ℕ) → Due
  many : (t : TaskTable) (i time : ℕ) → Due
  predecessor : (t : TaskTable) (i time left : ℕ) (given : List ℕ) → Due

-- "23, a count above 62"; "task numbers run upward from 0", else 22; 7, a time above 65,535; 8, a number of predecessors above n, or a predecessor of n or more
abbrev pub range : Due → Range
range (count id period) = record { broken = many_tasks; low = 0; high = tasks_max }
range (number t i) = record { broken = bad_layout; low = i; high = i }
range (time t i) = record { broken = bad_execution; low = 0; high = execution_max }
range (many t i e) = record { broken = bad_parent; low = 0; high = t.count }
range (predecessor t i e left given) = record { broken = bad_parent; low = 0; high = t.count - 1 }

-- "Predecessors may stand in any order, each once.", and "a repeat is 8"
abbrev pub repeats : Due → (v : ℕ) → Bool
repeats (count id period) v = false
repeats (number t i) v = false
repeats (time t i) v = false
repeats (many t i e) v = false
repeats (predecessor t i e left given) v = is_listed given v

-- low..high
abbrev pub between : (low v high : ℕ) → Bool
between low v high = leb low v && leb v high

-- what the word may say
abbrev pub allows : Due → (v : ℕ) → Bool
allows due v = between (range due).low v (range due).high && not (repeats due v)

-- what is expected next: a word, or after the last task nothing, unless "a word starting with # ends the reading"
pub data Next : Type 0 where
  word : Due → Next
  done : TaskTable → Next

-- "one line for each task and dummy": task i, if there is one
abbrev pub task_from : TaskTable → (i : ℕ) → Next
task_from t i = pick (ltb i t.count) (word (number t i)) (done t)

-- "the predecessors": one of so many, or the next task
abbrev pub predecessor_from : TaskTable → (i time many : ℕ) (given : List ℕ) → Next
predecessor_from t i e zero given = task_from (with_node t i e (list_set given)) (i + 1)
predecessor_from t i e (suc left) given = word (predecessor t i e left given)

-- "a count of tasks that leaves out one dummy entry and one dummy exit, then .. number, processing time, number of predecessors and the predecessors"
abbrev pub after : Due → (v : ℕ) → Next
after (count id period) v = task_from (headed edition id period (v + dummies)) 0
after (number t i) v = word (time t i)
after (time t i) v = word (many t i v)
after (many t i e) v = predecessor_from t i e v []
after (predecessor t i e left given) v = predecessor_from t i e left (given ++ v ∷ [])

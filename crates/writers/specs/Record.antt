-- The bytes of a table: its numbers in shortest form, one after the other.
use Rattle.std.specs.Prelude.{ℕ, zero, suc, ◌+◌, ◌*◌, ◌≡◌, List, [], ◌∷◌, ◌++◌, length}
use Rattle.plain.specs.At.{at}
use Rattle.sets.specs.Members.{members}
use Rattle.tables.specs.Limits.{count_max}
use Rattle.tables.specs.Range.{InRange}
use Rattle.tables.specs.declared.TaskTable.{TaskTable}
use Rattle.numbers.specs.Number.{record_more}
use Rattle.numbers.specs.Shortest.{all_shortest}

-- "Only the shortest form is allowed": numbers as they are written, one after the other
abbrev pub numbers_written : List ℕ → List ℕ
numbers_written = all_shortest record_more

-- "for each node .. its execution .., its parent count .. and that many parent numbers, .. strictly ascending": those of one node
abbrev pub node_numbers : (execution set : ℕ) → List ℕ
node_numbers e set = e ∷ length (members count_max set) ∷ members count_max set

-- "A record is, in order: edition, task id; period; node count n; then for each node": a table's head, and its nodes before node i
unfoldable pub numbers_to : TaskTable → (i : ℕ) → List ℕ
numbers_to t zero = t.edition ∷ t.id ∷ t.period ∷ t.count ∷ []
numbers_to t (suc i) = numbers_to t i ++ node_numbers (at t.execution i) (at t.parents i)

-- all of them
abbrev pub numbers_of : TaskTable → List ℕ
numbers_of t = numbers_to t t.count

-- a table as it is written
abbrev pub record_of : TaskTable → List ℕ
record_of t = numbers_written (numbers_of t)

-- no record is longer: its head takes at most 9 bytes, a node 3 for its execution, 1 for its parent count and 1 for each parent
abbrev pub record_max : ℕ
record_max = 9 + count_max * (3 + 1 + count_max)

-- "holds 64 execution times and 64 parent sets"
abbrev pub Full : TaskTable → Type 0
Full t = (length t.execution ≡ count_max) × (length t.parents ≡ count_max)

-- a record that spells a table: it is the table's bytes, and the table is one that a record can have
abbrev pub Spells : List ℕ → TaskTable → Type 0
Spells bytes t = (bytes ≡ record_of t) × InRange t × Full t

-- No record is longer than `record_max`: each number of it takes as many bytes as the greatest of its range, and a node has at most as many parents as there are
-- nodes.
use Prim.Native.Nat.{ℕ, zero, suc, ◌+◌, ◌*◌, ◌^◌, ◌≤◌, ◌<◌}
use mathlib.Core.Path.{◌≡◌, ap, ◌∙◌}
use mathlib.Core.List.{List, [], ◌∷◌, append-nil}
use native.Mathlib.Omega.{arith}
use lib.ListN.{length}
use Rattle.plain.specs.At.{at}
use Rattle.sets.specs.Members.{members}
use Rattle.sets.proofs.Sizes.{size-full, length-members}
use Rattle.tables.specs.declared.TaskTable.{TaskTable}
use Rattle.tables.specs.Limits.{count_max}
use Rattle.tables.specs.Range.{InRange}
use Rattle.numbers.specs.Number.{record_more}
use Rattle.numbers.specs.Shortest.{shortest, all_shortest}
use Rattle.numbers.proofs.Shortest.{shortest-fewer, shortest-length}
use Rattle.numbers.proofs.Written.{written-length}
use Rattle.writers.specs.Record.{numbers_written, node_numbers, numbers_to, record_of, record_max}
use Rattle.writers.proofs.Putting.{members-size}

-- a number of at most `more` groups after its first
short : (more v : ℕ) → v < 128 ^ suc more → more ≤ record_more → length (numbers_written (v ∷ [])) ≤ suc more
unfolding all_shortest
short more v h l = omega (arith, ap (length {A = ℕ}) (append-nil (shortest record_more v) ∙ shortest-fewer more record_more v h l), shortest-length more v)

-- one after the other
cons-length : (v : ℕ) (vs : List ℕ) → length (numbers_written (v ∷ vs)) ≡ length (numbers_written (v ∷ [])) + length (numbers_written vs)
cons-length v vs = written-length record_more (v ∷ []) vs

-- a node's numbers
node-length : (e w : ℕ) → e < 128 ^ 3 → length (numbers_written (node_numbers e w)) ≤ 4 + count_max
node-length e w h =
    let m = members count_max w in
    let few : length m ≤ count_max = rw (length-members count_max w) (size-full count_max w) in
    omega (arith, cons-length e (length m ∷ m), cons-length (length m) m, short 2 e h (omega arith), short 0 (length m) (omega arith) (omega arith), members-size w, size-full count_max w)

module _ (t : TaskTable) (r : InRange t) where
  numbers-length : (i : ℕ) → length (numbers_written (numbers_to t i)) ≤ 9 + i * (4 + count_max)
  unfolding numbers_to
  numbers-length zero =
      omega (
        arith,
        cons-length t.edition (t.id ∷ t.period ∷ t.count ∷ []),
        cons-length t.id (t.period ∷ t.count ∷ []),
        cons-length t.period (t.count ∷ []),
        short 0 t.edition (omega (arith, r.edition-high)) (omega arith),
        short 2 t.id (omega (arith, r.id-high)) (omega arith),
        short 3 t.period (omega (arith, r.period-high)) (omega arith),
        short 0 t.count (omega (arith, r.count-high)) (omega arith),
      )
  numbers-length (suc i) =
      let n = node_numbers (at t.execution i) (at t.parents i) in
      omega (arith, written-length record_more (numbers_to t i) n, numbers-length i, node-length (at t.execution i) (at t.parents i) (omega (arith, r.execution-high i)))

  pub record-length : length (record_of t) ≤ record_max
  record-length = omega (arith, numbers-length t.count, r.count-high)

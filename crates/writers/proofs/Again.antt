-- An accepted record is its table, written: the numbers before a place that is reached are those of the table so far, and each number that is
-- read is the next of them.
use Prim.Native.Nat.{ℕ, zero, suc, ◌+◌, ◌^◌, ◌≤◌, ◌<◌}
use mathlib.Core.Path.{◌≡◌, refl, sym, ap, ap₂, ◌∙◌}
use mathlib.Core.Logic.{⊎_elim}
use mathlib.Core.Bool.{Bool, true, false}
use mathlib.Core.List.{List, [], ◌∷◌, ◌++◌, append_assoc, append-nil}
use native.Mathlib.Nat.{eq-or-lt_of_le, le_of_suc-le-suc, lt_of_lt_of_le}
use native.Mathlib.Numerals.{add-one}
use native.Mathlib.Omega.{arith}
use lib.ListN.{length, take, set, length-append}
use lib.Dec.{ltb}
use lib.Pow.{pow_mono}
use lib.Seq.{take-add, take-length, get_or-drop, get_or-set_same, get_or-set_other}
use borrow.Author.Tests.{ltb-false}
use Rattle.plain.specs.Pick.{pick}
use Rattle.plain.specs.At.{at}
use Rattle.sets.specs.Member.{bit}
use Rattle.sets.specs.Members.{only, members}
use Rattle.sets.proofs.Walks.{no-members}
use Rattle.sets.proofs.Bits.{bit-put-same, bit-put-other, mem-lt, mem-or}
use Rattle.tables.specs.declared.TaskTable.{TaskTable}
use Rattle.tables.specs.Limits.{count_max}
use Rattle.numbers.specs.Number.{record_more}
use Rattle.numbers.specs.Shortest.{Bytes, shortest, all_shortest}
use Rattle.numbers.proofs.Shortest.{form-shortest}
use Rattle.numbers.proofs.Written.{written-append}
use Rattle.records.specs.Nodes.{table_read, with_node}
use Rattle.records.specs.Reading.{headed, reading_of}
use Rattle.records.specs.Expected.{Due, range, Next, node_from, after, Expects}
use Rattle.records.specs.Expected.Due.{edition, id, period, count, execution, parent_count, parent}
use Rattle.records.specs.Expected.Next.{number, nothing}
use Rattle.records.specs.Expected.Expects.{begin, on}
use Rattle.writers.specs.Record.{numbers_written, node_numbers, numbers_to, record_of, Full}
use Rattle.records.proofs.Expected.{read-spelt}
use Rattle.records.proofs.Answers.{Filling, Held, held, whole-table}

-- no digit at or past the width is 1
pub high_zero : (d k s : ℕ) → s < 2 ^ d → d ≤ k → bit k s ≡ 0
high_zero d k s h l = ⊎_elim (λ m. absurd (omega (arith, mem-lt d k s h m))) (λ z. z) (mem-or k s)

-- the members of a set with a number put in that is above them
module _ (s v : ℕ) (h : s < 2 ^ v) where
  put-below : (d : ℕ) → d ≤ v → members d (s + 2 ^ v) ≡ members d s
  unfolding members
  put-below zero l = refl
  put-below (suc d) l =
      ap₂ (λ (m : List ℕ) (b : ℕ). m ++ only b d) (put-below d (omega arith)) (bit-put-other v d s (λ q. omega arith) (high_zero v v s h (omega arith)))

  put-members : (d : ℕ) → v < d → members d (s + 2 ^ v) ≡ members d s ++ v ∷ []
  unfolding members
  put-members zero l = absurd (omega arith)
  put-members (suc d) l = ⊎_elim
      (λ (q : v ≡ d). rw (← q, bit-put-same v s (high_zero v v s h (omega arith)), high_zero v v s h (omega arith), put-below v (omega arith), append-nil (members v s)))
      (λ (q : v < d). let z = high_zero v d s h (omega arith) in
      rw (bit-put-other v d s (λ e. omega arith) (high_zero v v s h (omega arith)), z, append-nil (members d (s + 2 ^ v)), append-nil (members d s)) (put-members d q))
      (eq-or-lt_of_le (le_of_suc-le-suc l))

-- the numbers of the nodes before node i stay when that node is put in, and its own come after them
numbers-before : (t : TaskTable) (i e w k : ℕ) → k ≤ i → numbers_to (with_node t i e w) k ≡ numbers_to t k
unfolding numbers_to
numbers-before t i e w zero l = refl
numbers-before t i e w (suc k) l = ap₂ ◌++◌ (numbers-before t i e w k (omega arith))
    (ap₂ node_numbers (get_or-set_other t.execution i k e 0 (λ q. omega arith)) (get_or-set_other t.parents i k w 0 (λ q. omega arith)))

numbers-node : (t : TaskTable) (i e w : ℕ) → Filling i t → i < t.count → numbers_to (with_node t i e w) (i + 1) ≡ numbers_to t i ++ node_numbers e w
unfolding numbers_to
numbers-node t i e w f l = rw (add-one i) (ap₂ ◌++◌ (numbers-before t i e w i (omega arith)) (ap₂ node_numbers
    (get_or-set_same t.execution i e 0 (omega (arith, f.size, f.executions.size)))
    (get_or-set_same t.parents i w 0 (omega (arith, f.size, f.sets.size)))))

-- the numbers before what is expected
behind_of : Next → List ℕ
behind_of (number edition) = []
behind_of (number (id x)) = x ∷ []
behind_of (number (period x d)) = x ∷ d ∷ []
behind_of (number (count x d p)) = x ∷ d ∷ p ∷ []
behind_of (number (execution t i)) = numbers_to t i
behind_of (number (parent_count t i e)) = numbers_to t i ++ e ∷ []
behind_of (number (parent t i e left low set)) = numbers_to t i ++ e ∷ (suc left + length (members count_max set)) ∷ members count_max set
behind_of (nothing t) = numbers_to t t.count

-- from a node on, and after its last parent
node-behind : (t : TaskTable) (i : ℕ) → i ≤ t.count → behind_of (node_from t i) ≡ numbers_to t i
unfolding behind_of
node-behind t i l = by (ltb i t.count) refl
  where
    by : (b : Bool) → ltb i t.count ≡ b → behind_of (pick b (number (execution t i)) (nothing t)) ≡ numbers_to t i
    by true e = refl
    by false e = ap (numbers_to t) (omega (arith, ltb-false i t.count e))

last-behind : (t : TaskTable) (i e w : ℕ) → Filling i t → i < t.count → behind_of (node_from (with_node t i e w) (i + 1)) ≡ numbers_to t i ++ node_numbers e w
last-behind t i e w f l = node-behind (with_node t i e w) (i + 1) (omega arith) ∙ numbers-node t i e w f l

-- a parent more, above those so far
parent-behind : (front : List ℕ) (e c c' set v : ℕ) → set < 2 ^ v → v < count_max →
    (length (members count_max (set + 2 ^ v)) ≡ length (members count_max set) + 1 → c ≡ c') →
    front ++ e ∷ c ∷ members count_max (set + 2 ^ v) ≡ (front ++ e ∷ c' ∷ members count_max set) ++ v ∷ []
parent-behind front e c c' set v h l q =
    let put = put-members set v h count_max l in
    let n = q (ap (length {A = ℕ}) put ∙ length-append (members count_max set) (v ∷ [])) in
    rw (put, n) (sym (append_assoc front (e ∷ c' ∷ members count_max set) (v ∷ [])))

after-behind : (d : Due) (v : ℕ) → (range d).low ≤ v → v ≤ (range d).high → Held (number d) → behind_of (after d v) ≡ behind_of (number d) ++ v ∷ []
unfolding Held behind_of numbers_to
after-behind edition v l h g = refl
after-behind (id x) v l h g = refl
after-behind (period x d) v l h g = refl
after-behind (count x d p) v l h g = node-behind (headed x d p v) 0 (omega arith)
after-behind (execution t i) v l h g = refl
after-behind (parent_count t i e) zero l h g = last-behind t i e 0 g.0 g.1 ∙ rw (no-members count_max) (sym (append_assoc (numbers_to t i) (e ∷ []) (0 ∷ [])))
after-behind (parent_count t i e) (suc k) l h g =
    let q : suc k + 0 ≡ suc k = omega arith in
    rw (no-members count_max, q) (sym (append_assoc (numbers_to t i) (e ∷ []) (suc k ∷ [])))
after-behind (parent t i e zero low set) v l h g =
    last-behind t i e (set + 2 ^ v) g.0 g.1 ∙ parent-behind (numbers_to t i) e _ _ set v (lt_of_lt_of_le g.3 (pow_mono l)) (omega (arith, g.0.size, g.1)) λ q. omega arith
after-behind (parent t i e (suc left) low set) v l h g =
    parent-behind (numbers_to t i) e _ _ set v (lt_of_lt_of_le g.3 (pow_mono l)) (omega (arith, g.0.size, g.1)) λ q. omega arith

-- the bytes before a place that is reached are the numbers before what is expected there, written
behind : (s : List ℕ) → Bytes s → {at : ℕ} {next : Next} → Expects s at next → take at s ≡ numbers_written (behind_of next)
unfolding behind_of all_shortest
behind s b begin = refl
behind s b (on {place = at} {v = v} {n = n} {due = d} e w l h) =
    let x = (form-shortest record_more (λ k. rw (get_or-drop at s k 0) (b (at + k))) w.0 w.1).1 in
    take-add at n s ∙ ap₂ ◌++◌ (behind s b e) (x ∙ sym (append-nil (shortest record_more v))) ∙ sym (written-append record_more (behind_of (number d)) (v ∷ []))
    ∙ ap numbers_written (sym (after-behind d v l h (held e)))

-- so an accepted record is its table, written
pub read_again : (s : List ℕ) (t : TaskTable) → Bytes s → reading_of s ≡ table_read t → (s ≡ record_of t) × Full t
unfolding behind_of
read_again s t b q = let e = (read-spelt s t q).0 in let f = whole-table e in (sym (take-length s) ∙ behind s b e, (f.executions.size, f.sets.size))

-- A trial of a record's numbers, in the code's own steps.
use Rattle.std.specs.Prelude.{ℕ, zero, suc, ◌+◌, ◌*◌, ◌&&◌, List, length, leb, ltb, Result, Ok, Err}
use Rattle.plain.specs.Pick.{pick}
use Rattle.plain.specs.At.{at}
use Rattle.sets.specs.Size.{size_to, size}
use Rattle.refusals.specs.Numbers.{bad_edition, bad_id, bad_period, bad_count, bad_execution, bad_parent}
use Rattle.refusals.specs.declared.Refusal.{Refusal}
use Rattle.refusals.specs.Refusal.{refusal}
use Rattle.tables.specs.Limits.{edition_max, id_max, period_max, count_max, execution_max, least_execution}
use Rattle.numbers.specs.Shortest.{shortest}
use Rattle.numbers.specs.Inner.Word.{word_more}

-- how far a node moves a trial on at most, and the four numbers before the nodes: two words, and a byte for each parent
abbrev pub node_max : ℕ
node_max = 2 * suc word_more + count_max

-- no trial comes further: the numbers before the nodes, and every node
abbrev pub place_max : ℕ
place_max = node_max + count_max * node_max

-- the place after the last number, or the refusal of the first that is out of its range
abbrev pub Trial : Type 0
Trial = Result ℕ Refusal

-- a trial that came as far as a place
abbrev pub passed : (next : ℕ) → Trial
passed next = Ok next

-- one that stopped at a place
abbrev pub stopped : (number place : ℕ) → Trial
stopped number place = Err (refusal number place)

-- a trial that came through goes on from its place; one that stopped stays
abbrev pub onward : Trial → (ℕ → Trial) → Trial
onward (Ok place) go = go place
onward (Err r) go = Err r

-- a number, tried in low..high
unfoldable pub tried : (broken low high v : ℕ) → Trial → Trial
tried broken low high v r = onward r λ place. pick (leb low v && leb v high) (passed (place + length (shortest word_more v))) (stopped broken place)

-- the parents of a set: those below n, a byte each, and the first that is not
unfoldable pub parents_tried : (n set : ℕ) → Trial → Trial
parents_tried n set r = onward r λ place. pick (ltb (size_to n set) (size set)) (stopped bad_parent (place + size_to n set)) (passed (place + size_to n set))

-- a node's numbers
abbrev pub node_tried : (least n execution set : ℕ) → Trial → Trial
node_tried least n e set r = parents_tried n set (tried bad_parent 0 n (size set) (tried bad_execution least execution_max e r))

-- those of the nodes before node i
unfoldable pub nodes_tried : (least : ℕ) (executions parents : List ℕ) → Trial → (i : ℕ) → Trial
nodes_tried least X P head zero = head
nodes_tried least X P head (suc i) = node_tried least (length X) (at X i) (at P i) (nodes_tried least X P head i)

-- the numbers before the nodes
abbrev pub head_tried : (edition id period n : ℕ) → Trial
head_tried x d p n = tried bad_count 1 count_max n (tried bad_period 1 period_max p (tried bad_id 1 id_max d (tried bad_edition 1 edition_max x (passed 0))))

-- all numbers of two lists' record
abbrev pub record_tried : (executions parents : List ℕ) (edition id period : ℕ) → Trial
record_tried X P x d p = nodes_tried (least_execution x) X P (head_tried x d p (length X)) (length X)

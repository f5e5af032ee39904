-- A given record, number by number: the reader's layout and order.
use Rattle.std.specs.Prelude.{ℕ, zero, suc, ◌+◌, List, length, ltb, Result, Ok, Err}
use Rattle.plain.specs.Pick.{pick}
use Rattle.refusals.specs.Numbers.{bad_edition, bad_id, bad_period, bad_count, bad_execution, bytes_follow}
use Rattle.refusals.specs.declared.Refusal.{Refusal}
use Rattle.refusals.specs.Refusal.{refusal}
use Rattle.tables.specs.declared.TaskTable.{TaskTable}
use Rattle.tables.specs.Limits.{edition_max, id_max, period_max, count_max, execution_max, least_execution}
use Rattle.tables.specs.Table.{empty_table}
use Rattle.records.specs.Nodes.{with_node}
use Rattle.records.specs.Reading.{headed}
use Rattle.menders.specs.declared.Counts.{Counts}
use Rattle.menders.specs.declared.Spot.{Spot}
use Rattle.menders.specs.declared.Draft.{Draft}
use Rattle.menders.specs.Taken.{then_taken, then_of, taken}
use Rattle.menders.specs.Listed.{parent_list}

-- "three zeros"
abbrev pub no_counts : Counts
no_counts = record { padded = 0; reordered = 0; dropped = 0 }

-- the table that was read, with its counts
abbrev pub drawn : TaskTable → Counts → Draft
drawn t counts = record { outcome = Ok tt; table = t; counts = counts }

-- "from any reader of a table, a table that is all zeros", and no counts
abbrev pub undrawn : Refusal → Draft
undrawn r = record { outcome = Err r; table = empty_table; counts = no_counts }

-- "Nothing follows.": 9 stands at the "first such byte"
unfoldable pub no_more : TaskTable → (reordered dropped : ℕ) → List ℕ → Spot → Draft
no_more t reordered dropped bytes spot =
    pick (ltb spot.at (length bytes))
    (undrawn (refusal bytes_follow spot.at))
    (drawn t (record { padded = spot.padded; reordered = reordered; dropped = dropped }))

-- "then for each node 0..n-1 its execution", "its parent count" and "that many parent numbers": k nodes from node i on
unfoldable pub nodes_taken : (k i : ℕ) → TaskTable → (reordered dropped : ℕ) → List ℕ → Spot → Draft
nodes_taken zero i t reordered dropped bytes spot = no_more t reordered dropped bytes spot
nodes_taken (suc k) i t reordered dropped bytes spot =
    then_taken undrawn (taken bad_execution (least_execution t.edition) execution_max bytes spot) λ e spot₁.
    then_of undrawn (parent_list t.count bytes spot₁) λ list.
    nodes_taken k (i + 1) (with_node t i e list.set) (reordered + list.reordered) (dropped + list.dropped) bytes list.spot

-- "A record is, in order: edition", 1 or 2, "task id (1..65,535); period (1..16,777,215); node count n (1..64);" and then the nodes
unfoldable pub draft_of : List ℕ → Draft
draft_of bytes =
    then_taken undrawn (taken bad_edition 1 edition_max bytes (record { at = 0; padded = 0 })) λ edition spot₁.
    then_taken undrawn (taken bad_id 1 id_max bytes spot₁) λ id spot₂.
    then_taken undrawn (taken bad_period 1 period_max bytes spot₂) λ period spot₃.
    then_taken undrawn (taken bad_count 1 count_max bytes spot₃) λ n spot₄.
    nodes_taken n 0 (headed edition id period n) 0 0 bytes spot₄

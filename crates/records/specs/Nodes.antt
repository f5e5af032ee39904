-- The nodes of a record, and what reading comes to.
use Rattle.std.specs.Prelude.{ℕ, zero, suc, ◌+◌, List, length, set, ltb, Result, Ok, Err}
use Rattle.plain.specs.Pick.{pick}
use Rattle.refusals.specs.declared.Refusal.{Refusal}
use Rattle.refusals.specs.Numbers.{bad_execution, bytes_follow, none_runs}
use Rattle.tables.specs.declared.TaskTable.{TaskTable}
use Rattle.tables.specs.Limits.{execution_max, least_execution}
use Rattle.tables.specs.Table.{empty_table}
use Rattle.tables.specs.Runs.{all_zero}
use Rattle.records.specs.declared.Reading.{Reading}
use Rattle.refusals.specs.Refusal.{refusal}
use Rattle.records.specs.Step.{and_then}
use Rattle.records.specs.Ranged.{ranged}
use Rattle.records.specs.Parents.{parent_set}

-- "The table read from a record"
abbrev pub table_read : TaskTable → Reading
table_read t = record { outcome = Ok tt; table = t }

-- "A refusal returns its number and place, and with them, from any reader of a table, a table that is all zeros"
abbrev pub no_table : Refusal → Reading
no_table r = record { outcome = Err r; table = empty_table }

-- the two of what an inner step returns: the table, or the refusal
abbrev pub with_table : Result TaskTable Refusal → Reading
with_table (Ok t) = table_read t
with_table (Err r) = no_table r

-- the table with node i's execution and its parent set, "a set being one 64-bit word"
abbrev pub with_node : TaskTable → ℕ → ℕ → ℕ → TaskTable
with_node t i e w = record { edition = t.edition; id = t.id; period = t.period; count = t.count; execution = set t.execution i e; parents = set t.parents i w }

-- "21, all executions are 0, is the reader's last", at 0
abbrev pub unless_all_zero : TaskTable → Reading
unless_all_zero t = pick (all_zero t.execution t.count) (no_table (refusal none_runs 0)) (table_read t)

-- "Nothing follows.": 9 stands at the "first such byte"
unfoldable pub nothing_follows : TaskTable → List ℕ → ℕ → Reading
nothing_follows t bytes at = pick (ltb at (length bytes)) (no_table (refusal bytes_follow at)) (unless_all_zero t)

-- "then for each node 0..n-1 its execution", from the least of its edition to 65,535, "its parent count (0..n) and that many parent numbers": k nodes
-- from node i on
unfoldable pub nodes : ℕ → ℕ → TaskTable → List ℕ → ℕ → Reading
nodes zero i t bytes at = nothing_follows t bytes at
nodes (suc k) i t bytes at =
    and_then no_table (ranged bad_execution (least_execution t.edition) execution_max bytes at) λ e at₁.
    and_then no_table (parent_set t.count bytes at₁) λ w at₂.
    nodes k (i + 1) (with_node t i e w) bytes at₂

-- A whole record, number by number.
use Rattle.std.specs.Prelude.{ℕ, List}
use Rattle.refusals.specs.Numbers.{bad_edition, bad_id, bad_period, bad_count}
use Rattle.tables.specs.declared.TaskTable.{TaskTable}
use Rattle.tables.specs.Limits.{edition_max, id_max, period_max, count_max}
use Rattle.tables.specs.Table.{empty_table}
use Rattle.records.specs.declared.Reading.{Reading}
use Rattle.records.specs.Step.{and_then}
use Rattle.records.specs.Ranged.{ranged}
use Rattle.records.specs.Nodes.{no_table, nodes}

-- a table before its nodes are read: "Entries past the node count are 0."
abbrev pub headed : (edition id period n : ℕ) → TaskTable
headed edition id period n = record { edition = edition; id = id; period = period; count = n; execution = empty_table.execution; parents = empty_table.parents }

-- "A record is, in order: edition", 1 or 2, "task id (1..65,535); period (1..16,777,215); node count n (1..64);" and then the nodes
unfoldable pub reading_of : List ℕ → Reading
reading_of bytes =
    and_then no_table (ranged bad_edition 1 edition_max bytes 0) λ edition at₁.
    and_then no_table (ranged bad_id 1 id_max bytes at₁) λ id at₂.
    and_then no_table (ranged bad_period 1 period_max bytes at₂) λ period at₃.
    and_then no_table (ranged bad_count 1 count_max bytes at₃) λ n at₄.
    nodes n 0 (headed edition id period n) bytes at₄

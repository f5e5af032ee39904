-- The table that holds nothing.
use Rattle.std.specs.Prelude.{replicate}
use Rattle.tables.specs.declared.TaskTable.{TaskTable}
use Rattle.tables.specs.Limits.{count_max}

-- "a table that is all zeros"
abbrev pub empty_table : TaskTable
empty_table = record { edition = 0; id = 0; period = 0; count = 0; execution = replicate count_max 0; parents = replicate count_max 0 }

-- What planning a table comes to, where a later rule may still refuse it.
use Rattle.std.specs.Prelude.{eqb, List, ℕ}
use Rattle.plain.specs.Pick.{pick}
use Rattle.refusals.specs.declared.Answer.{Answer}
use Rattle.refusals.specs.After.{After}
use Rattle.tables.specs.declared.TaskTable.{TaskTable}
use Rattle.plans.specs.Calls.{on_table, unplanned, planned}

-- the answer of the rules after 11, as 12 and 13 of an admission: a refusal goes out with the words untouched, else the plan is written
abbrev pub unless_later : Answer → List ℕ → TaskTable → After (List ℕ)
unless_later later words t = pick (eqb later.refusal 0) (planned words t) (record { answer = later; lent = words })

-- 10, 11, then the later answer
abbrev pub table_plan : Answer → List ℕ → TaskTable → After (List ℕ)
table_plan later words t = on_table (unplanned words) (unless_later later words) t

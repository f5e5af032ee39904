-- The tasks of a table, one by one: the reading has come to task i, with the tasks before it in the table.
use Prim.Native.Nat.{ℕ, ◌+◌, ◌<◌}
use mathlib.Core.Path.{◌≡◌, ap, ◌∙◌}
use mathlib.Core.List.{List}
use native.Mathlib.Omega.{arith}
use lib.ListN.{length, length-set}
use Rattle.tables.specs.declared.TaskTable.{TaskTable}
use Rattle.tables.specs.Limits.{count_max}
use Rattle.records.specs.Nodes.{with_node}
use Rattle.graphs.specs.Expected.{Next, task_from}
use Rattle.graphs.specs.Expected.Due.{number}
use Rattle.graphs.specs.Expected.Next.{word}
use Rattle.graphs.specs.Inner.Taken.{reading_at}
use Rattle.graphs.proofs.Steps.{task-left}

pub record Filled (text : List ℕ) (from : ℕ) (head : TaskTable) (i : ℕ) (table : TaskTable) (at : ℕ) : Type 0 where
  pub goes : reading_at text (task_from head 0) from ≡ reading_at text (task_from table i) at
  pub count : table.count ≡ head.count
  pub executions : length table.execution ≡ count_max
  pub parents : length table.parents ≡ count_max

module _ {text : List ℕ} {from : ℕ} {head : TaskTable} {i : ℕ} {table : TaskTable} {at : ℕ} (f : Filled text from head i table at) where
  -- task i is due
  pub task-due : i < head.count → reading_at text (task_from head 0) from ≡ reading_at text (word (number table i)) at
  task-due h = f.goes ∙ ap (λ (next : Next). reading_at text next at) (task-left table i (omega (arith, f.count, h)))

  -- it was taken
  pub filled-more : (e w : ℕ) {end : ℕ} → reading_at text (task_from head 0) from ≡ reading_at text (task_from (with_node table i e w) (i + 1)) end →
      Filled text from head (i + 1) (with_node table i e w) end
  filled-more e w goes = record { goes = goes; count = f.count; executions = length-set _ _ _ ∙ f.executions; parents = length-set _ _ _ ∙ f.parents }

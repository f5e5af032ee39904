-- What is handed on of a table that was planned.
use Rattle.std.specs.Prelude.{◌≡◌, List, ℕ, ◌≤◌, length}
use Rattle.tables.specs.declared.TaskTable.{TaskTable}
use Rattle.plans.specs.declared.Planning.{Planning}
use Rattle.plans.specs.Words.{words_max, written}
use Rattle.plans.specs.Inner.Drawn.{Totalled}

-- the words hold the table's plan, and work, path and period are its own
pub record PlanOf (t : TaskTable) (words : List ℕ) (period : ℕ) (p : Planning) : Type 0 where
  pub totals : Totalled t p
  pub period-is : period ≡ t.period
  pub lent : List ℕ
  pub room : words_max ≤ length lent
  pub plan : words ≡ written t lent

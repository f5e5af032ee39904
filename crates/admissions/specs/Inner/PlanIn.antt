-- What a row is read from.
use Rattle.std.specs.Prelude.{◌≡◌, List, ℕ, ◌≤◌, length}
use Rattle.tables.specs.declared.TaskTable.{TaskTable}
use Rattle.plans.specs.declared.Planning.{Planning}
use Rattle.plans.specs.Words.{words_max, written}
use Rattle.plans.specs.Inner.Drawn.{Totalled}

-- of a table that has a plan: its id and node count, what planning it told, and words in which the plan stands
pub record PlanIn (t : TaskTable) (i n : ℕ) (p : Planning) (words : List ℕ) : Type 0 where
  pub totals : Totalled t p
  pub id : i ≡ t.id
  pub count : n ≡ t.count
  pub old : List ℕ
  pub room : words_max ≤ length old
  pub plan : words ≡ written t old

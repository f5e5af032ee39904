-- What the writing functions ask of each other: where no rule refuses, the numbers fit their groups and the record fits the bytes.
use Rattle.std.specs.Prelude.{ℕ, ◌≤◌, ◌<◌, List, length}
use Rattle.plain.specs.At.{at}
use Rattle.tables.specs.Limits.{count_max}
use Rattle.plans.specs.Words.{words_max}
use Rattle.planwriters.specs.Writing.{numbers_of, plan_record_of, value_limit}

-- every value is below 2^63 (past the list's end stands 0)
pub record Small (values : List ℕ) : Type 0 where
  pub each : (k : ℕ) → at values k < value_limit

-- there are 387 words, and both counts are in 1..64
pub record Counted (words : List ℕ) : Type 0 where
  pub enough : words_max ≤ length words
  pub segments-low : 1 ≤ at words 1
  pub segments-high : at words 1 ≤ count_max
  pub nodes-low : 1 ≤ at words 2
  pub nodes-high : at words 2 ≤ count_max

-- all rules pass
pub record Fits (words : List ℕ) (room id : ℕ) : Type 0 where
  pub counted : Counted words
  pub small : Small (numbers_of id words)
  pub enough : length (plan_record_of id words) ≤ room

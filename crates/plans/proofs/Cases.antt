-- What a record's task comes to, case by case: the definition is a chain of tests, and each test says a rule of document 01.
use Rattle.std.specs.Prelude.{Result, Ok, Err, ⊤}
use mathlib.Core.Path.{◌≡◌, refl}
use mathlib.Core.Bool.{true, false}
use mathlib.Core.List.{List}
use Prim.Native.Nat.{ℕ, ◌≤◌, ◌<◌}
use lib.Dec.{ltb}
use borrow.Author.Tests.{ltb-true, ltb-false}
use Rattle.plain.proofs.Picks.{pick-case}
use Rattle.refusals.specs.Numbers.{long_path, few_words, high_cost}
use Rattle.refusals.specs.declared.Refusal.{Refusal}
use Rattle.refusals.specs.Refusal.{refusal, on_outcome}
use Rattle.tables.specs.declared.TaskTable.{TaskTable}
use Rattle.tables.specs.Limits.{cost_max}
use Rattle.tables.proofs.Cost.{costed-range}
use Rattle.records.specs.Reading.{reading_of}
use Rattle.records.proofs.Answers.{accepted-table}
use Rattle.ways.specs.Closure.{loops}
use Rattle.plans.specs.Diagram.{path}
use Rattle.plans.specs.Accepted.{Accepted}
use Rattle.plans.specs.Words.{words_max}
use Rattle.plans.specs.Calls.{before_reading, loop_in, on_table, task_of, on_task}

-- the rules that are tried first: 26; 16; else the record is read
pub data Before (words cost : ℕ) : Result ⊤ Refusal → Type 0 where
  dear : cost_max < cost → Before words cost (Err (refusal high_cost 0))
  few : cost ≤ cost_max → words < words_max → Before words cost (Err (refusal few_words 0))
  reads : cost ≤ cost_max → words_max ≤ words → Before words cost (Ok tt)

pub before : (words cost : ℕ) → Before words cost (before_reading words cost)
unfolding before_reading
before words cost =
    pick-case (Before words cost) (ltb cost_max cost)
    (λ h. dear (ltb-true cost_max cost h))
    (λ h. let c = ltb-false cost_max cost h in
    pick-case (Before words cost) (ltb words words_max)
    (λ w. few c (ltb-true words words_max w))
    (λ w. reads c (ltb-false words words_max w)))

module _ {A : Type 0} (refuse : Refusal → A) (go : TaskTable → A) (bytes : List ℕ) (cost : ℕ) where
  -- a refusal of the reader; 10; 11; else the task goes on
  pub data Tasking : A → Type 0 where
    unread : (r : Refusal) → (reading_of bytes).outcome ≡ Err r → Tasking (refuse r)
    round : (reading_of bytes).outcome ≡ Ok tt → loops (task_of bytes cost).parents (task_of bytes cost).count ≡ true → Tasking (refuse (loop_in (task_of bytes cost)))
    long : (reading_of bytes).outcome ≡ Ok tt → loops (task_of bytes cost).parents (task_of bytes cost).count ≡ false → (task_of bytes cost).period < path (task_of bytes cost) → Tasking (refuse (refusal long_path 0))
    goes : (reading_of bytes).outcome ≡ Ok tt → Accepted (task_of bytes cost) → Tasking (go (task_of bytes cost))

  -- a table that was read
  on-table : cost ≤ cost_max → (reading_of bytes).outcome ≡ Ok tt → Tasking (on_table refuse go (task_of bytes cost))
  unfolding on_table
  on-table allowed e =
      pick-case Tasking (loops (task_of bytes cost).parents (task_of bytes cost).count)
      (λ l. round e l)
      (λ l. pick-case Tasking (ltb (task_of bytes cost).period (path (task_of bytes cost)))
      (λ h. long e l (ltb-true (task_of bytes cost).period (path (task_of bytes cost)) h))
      (λ h. goes e (record { range = costed-range (accepted-table bytes e) allowed; free = l; fits = ltb-false (task_of bytes cost).period (path (task_of bytes cost)) h })))

  -- one of the four
  pub tasking : cost ≤ cost_max → Tasking (on_task refuse go bytes cost)
  unfolding on_task
  tasking allowed = by (reading_of bytes).outcome refl
    where
      by : (o : Result ⊤ Refusal) → (reading_of bytes).outcome ≡ o → Tasking (on_outcome refuse (on_table refuse go (task_of bytes cost)) o)
      by (Ok done) e = on-table allowed e
      by (Err r) e = unread r e

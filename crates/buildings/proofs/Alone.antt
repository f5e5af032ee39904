-- A record planned alone is refused by one of the numbers that its own rules have, or its task is accepted; whatever is counted goes by the same of the two.
use mathlib.Core.Path.{◌≡◌, ◌∙◌}
use mathlib.Core.Bool.{true}
use mathlib.Core.List.{List}
use Prim.Native.Nat.{ℕ, ◌≤◌, ◌<◌}
use native.Mathlib.Omega.{arith}
use Rattle.std.specs.Prelude.{Result, Ok, Err, ⊤}
use Rattle.refusals.specs.Numbers.{loop, long_path}
use Rattle.refusals.specs.Readers.{is_readers}
use Rattle.refusals.specs.declared.Refusal.{Refusal}
use Rattle.refusals.specs.Refusal.{refusal}
use Rattle.refusals.proofs.Readers.{readers-low, readers-high}
use Rattle.tables.specs.declared.TaskTable.{TaskTable}
use Rattle.tables.specs.Limits.{cost_max}
use Rattle.records.proofs.Expected.{refused-told}
use Rattle.plans.specs.Accepted.{Accepted}
use Rattle.plans.specs.Calls.{loop_in, task_of, on_task}
use Rattle.plans.proofs.Cases.{Tasking, tasking}
use Rattle.plans.proofs.Cases.Tasking.{unread, round, long, goes}
use Rattle.plans.proofs.Tests.{task-refused, task-read, on-loop, on-long, on_fits}
use Rattle.buildings.specs.Counts.{numbers_max}

-- the numbers that planning a record has beside the cost's and the words': the reader's own, 10 and 11
pub data Own : (number : ℕ) → Type 0 where
  reader : {number : ℕ} → is_readers number ≡ true → Own number
  looped : Own loop
  outrun : Own long_path

-- none is 0, and none is above 21
pub own-low : {number : ℕ} → Own number → 1 ≤ number
own-low (reader e) = readers-low _ e
own-low looped = omega arith
own-low outrun = omega arith

pub own-high : {number : ℕ} → Own number → number < numbers_max
own-high (reader e) = omega (arith, readers-high _ e)
own-high looped = omega arith
own-high outrun = omega arith

module _ (bytes : List ℕ) (cost : ℕ) where
  -- one of the two
  pub data Alone : Type 1 where
    turned : (r : Refusal) → Own r.number → ((A : Type 0) (refuse : Refusal → A) (go : TaskTable → A) → on_task refuse go bytes cost ≡ refuse r) → Alone
    taken : Accepted (task_of bytes cost) → ((A : Type 0) (refuse : Refusal → A) (go : TaskTable → A) → on_task refuse go bytes cost ≡ go (task_of bytes cost)) → Alone

  pub alone : cost ≤ cost_max → Alone
  alone allowed = by (tasking Err (λ _. Ok tt) bytes cost allowed)
    where
      by : {o : Result ⊤ Refusal} → Tasking Err (λ _. Ok tt) bytes cost o → Alone
      by (unread r e) = turned r (reader (refused-told bytes r e).own) (λ A refuse go. task-refused refuse go bytes cost e)
      by (round e l) = turned (loop_in (task_of bytes cost)) looped (λ A refuse go. task-read refuse go bytes cost e ∙ on-loop refuse go (task_of bytes cost) l)
      by (long e l h) = turned (refusal long_path 0) outrun (λ A refuse go. task-read refuse go bytes cost e ∙ on-long refuse go (task_of bytes cost) l h)
      by (goes e ok) = taken ok (λ A refuse go. task-read refuse go bytes cost e ∙ on_fits refuse go (task_of bytes cost) ok.free ok.fits)

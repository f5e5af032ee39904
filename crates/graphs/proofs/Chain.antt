-- The words of a task up to its predecessors: each that is taken leads to the one that is due after it, so over all three the reading comes to the predecessors.
use Prim.Native.Nat.{ℕ, ◌≤◌, ◌<◌}
use mathlib.Core.Path.{◌≡◌, ◌∙◌}
use mathlib.Core.List.{List, []}
use native.Mathlib.Omega.{arith}
use Rattle.std.specs.Prelude.{false, Ok, Err}
use Rattle.refusals.specs.declared.Refusal.{Refusal}
use Rattle.refusals.specs.Numbers.{bad_layout, bad_execution, bad_parent}
use Rattle.tables.specs.declared.TaskTable.{TaskTable}
use Rattle.tables.specs.Limits.{count_max, execution_max}
use Rattle.graphwords.specs.declared.Number.{Number}
use Rattle.graphs.specs.Expected.{predecessor_from}
use Rattle.graphs.specs.Expected.Due.{number, time, many}
use Rattle.graphs.specs.Expected.Next.{word}
use Rattle.graphs.specs.Graph.{no_graph}
use Rattle.graphs.specs.Inner.Taken.{number_taken, reading_at}
use Rattle.graphs.proofs.Steps.{step-out, Passed, passed}

module _ (text : List ℕ) (i n from : ℕ) (below : i < n) (few : n ≤ count_max) where
  -- the task's number, whichever tasks stand before it
  pub number-out : (r : Refusal) → Err r ≡ number_taken bad_layout i i text from → (t : TaskTable) → reading_at text (word (number t i)) from ≡ no_graph false r
  number-out r is t = step-out text (number t i) (omega arith) (omega arith) from r is

  module _ {p : Number} (is : Ok p ≡ number_taken bad_layout i i text from) where
    numbered : (t : TaskTable) → Passed text (number t i) from p
    numbered t = passed text (number t i) (omega arith) (omega arith) from p is

    -- its time
    pub time-out : (r : Refusal) → Err r ≡ number_taken bad_execution 0 execution_max text p.end → (t : TaskTable) → reading_at text (word (number t i)) from ≡ no_graph false r
    time-out r at t = (numbered t).goes ∙ step-out text (time t i) (omega arith) (omega arith) p.end r at

    module _ {e : Number} (at : Ok e ≡ number_taken bad_execution 0 execution_max text p.end) where
      timed : (t : TaskTable) → Passed text (time t i) p.end e
      timed t = passed text (time t i) (omega arith) (omega arith) p.end e at

      -- the number of its predecessors
      module _ (t : TaskTable) (same : t.count ≡ n) where
        pub many-out : (r : Refusal) → Err r ≡ number_taken bad_parent 0 n text e.end → reading_at text (word (number t i)) from ≡ no_graph false r
        many-out r is = (numbered t).goes ∙ (timed t).goes ∙ step-out text (many t i e.value) (omega arith) (omega arith) e.end r (rw same is)

        counted : {k : Number} → Ok k ≡ number_taken bad_parent 0 n text e.end → Passed text (many t i e.value) e.end k
        counted {k} is = passed text (many t i e.value) (omega arith) (omega arith) e.end k (rw same is)

        pub many-on : {k : Number} → Ok k ≡ number_taken bad_parent 0 n text e.end →
            reading_at text (word (number t i)) from ≡ reading_at text (predecessor_from t i e.value k.value []) k.end
        many-on is = (numbered t).goes ∙ (timed t).goes ∙ (counted is).goes

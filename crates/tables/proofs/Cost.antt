-- What a cost does to a table: a node that runs pays it once, a join and an entry past the nodes stay 0, and a cost of 0 changes nothing; so a
-- table in range, with a cost in range, can be planned.
use mathlib.Core.Path.{◌≡◌, refl, ap, ◌∙◌}
use mathlib.Core.Logic.{⊎_elim}
use mathlib.Core.List.{List, map}
use Prim.Native.Nat.{ℕ, ◌+◌, ◌≤◌, ◌<◌}
use native.Mathlib.Omega.{arith}
use lib.ListN.{length-map, get_or-map}
use lib.Seq.{ext_get_or}
use borrow.Author.Tests.{ne_eqb}
use Rattle.plain.specs.At.{at}
use Rattle.plain.proofs.Lists.{lt-or-ge}
use Rattle.tables.specs.declared.TaskTable.{TaskTable}
use Rattle.tables.specs.Limits.{execution_max, cost_max, run_max}
use Rattle.tables.specs.Range.{InRange}
use Rattle.tables.specs.Cost.{with_cost, costed, CostedRange}
use Rattle.tables.specs.Inner.Plannable.{Plannable}

-- an entry of the executions with their cost
pub at-cost : (X : List ℕ) (cost v : ℕ) → at (map (with_cost cost) X) v ≡ with_cost cost (at X v)
at-cost X cost v = get_or-map (with_cost cost) X v 0

-- who runs pays
pub cost-runs : (cost written : ℕ) → 1 ≤ written → with_cost cost written ≡ written + cost
cost-runs cost written h = rw (ne_eqb written 0 (λ (z : written ≡ 0). omega arith))

-- who doesn't pays nothing
pub cost-idle : (cost written : ℕ) → written ≡ 0 → 0 ≡ with_cost cost written
cost-idle cost written z = rw z

-- what holds of 0, and of each that runs with its cost, holds of every execution with its cost
pub cost-cases : (cost : ℕ) (P : ℕ → ℕ → Type 0) → P 0 0 → ((written : ℕ) → 1 ≤ written → P written (written + cost)) → (written : ℕ) → P written (with_cost cost written)
cost-cases cost P idle runs written = ⊎_elim
    (λ (r : 0 < written). rw (cost-runs cost written r) (runs written r))
    (λ (n : written ≤ 0). let z : written ≡ 0 = omega arith in rw z idle)
    (lt-or-ge 0 written)

-- who is 0 with the cost is 0 without
pub cost-none : (cost written : ℕ) → with_cost cost written ≡ 0 → written ≡ 0
cost-none cost = cost-cases cost (λ w x. x ≡ 0 → w ≡ 0) (λ e. refl) (λ w r e. absurd (omega arith))

-- a cost of 0 is none
no-cost : (written : ℕ) → with_cost 0 written ≡ written
no-cost = cost-cases 0 (λ w x. x ≡ w) refl (λ w r. omega arith)

-- a table with the cost 0 is the table
pub costed-0 : (t : TaskTable) → costed t 0 ≡ t
costed-0 t = ap (λ (X : List ℕ). record { edition = t.edition; id = t.id; period = t.period; count = t.count; execution = X; parents = t.parents }) (ext_get_or 0 (map (with_cost 0) t.execution) t.execution (length-map t.execution (with_cost 0)) (λ k h. at-cost t.execution 0 k ∙ no-cost (at t.execution k)))

-- no execution in range is above `run_max` with a cost in range
cost-high : (cost : ℕ) → cost ≤ cost_max → (written : ℕ) → written ≤ execution_max → with_cost cost written ≤ run_max
cost-high cost c = cost-cases cost (λ w x. w ≤ execution_max → x ≤ run_max) (λ h. omega arith) (λ w r h. omega arith)

-- a table in range, with a cost in range
pub costed-range : {t : TaskTable} {cost : ℕ} → InRange t → cost ≤ cost_max → CostedRange (costed t cost)
costed-range {t} {cost} r c = record { written = t; cost = cost; range = r; cost-high = c; is = refl }

-- it can be planned: of the executions planning asks only that some node runs, none for longer than `run_max`, and that past the nodes stands 0
pub plannable : {t : TaskTable} → CostedRange t → Plannable t
plannable {t} w = let t₀ = w.written in let r = w.range in rw w.is (record {
  id-low = r.id-low;
  id-high = r.id-high;
  period-high = r.period-high;
  count-high = r.count-high;
  some_runs = let v = r.some_runs in (v.0, v.1, runs v.0 v.2);
  run-high = λ v. rw (at-cost t₀.execution w.cost v) (cost-high w.cost w.cost-high (at t₀.execution v) (r.execution-high v));
  run_past = λ v h. at-cost t₀.execution w.cost v ∙ ap (with_cost w.cost) (r.execution-past v h);
  parents-below = r.parents-below;
  parents-past = r.parents-past;
})
  where
    runs : (v : ℕ) → 1 ≤ at w.written.execution v → 1 ≤ at (costed w.written w.cost).execution v
    runs v = rw (at-cost w.written.execution w.cost v) (cost-cases w.cost (λ x y. 1 ≤ x → 1 ≤ y) (λ h. h) (λ x r h. omega arith) (at w.written.execution v))

-- Twice a path is a period: some node runs, so that the path is above 0, and no path is longer than the work, which is at most 64 × 65,535. So 11
-- can't occur, neither at the largest period nor at twice the path, and a table that is refused has a loop.
use mathlib.Core.Path.{◌≡◌, refl, sym, ap}
use mathlib.Core.Bool.{Bool, true, false}
use mathlib.Core.List.{List}
use Prim.Native.Nat.{ℕ, ◌*◌, ◌≤◌}
use native.Mathlib.Nat.{le_refl, le_trans}
use native.Mathlib.Omega.{arith}
use Rattle.refusals.specs.declared.Refusal.{Refusal}
use Rattle.refusals.specs.declared.Answer.{Answer}
use Rattle.refusals.specs.Refusal.{refusal_of}
use Rattle.refusals.specs.Answer.{accepted, refused}
use Rattle.refusals.specs.After.{After}
use Rattle.tables.specs.declared.TaskTable.{TaskTable}
use Rattle.tables.specs.Limits.{period_max, count_max, execution_max}
use Rattle.tables.specs.Range.{InRange}
use Rattle.tables.specs.Cost.{costed}
use Rattle.tables.specs.Inner.Plannable.{Plannable}
use Rattle.tables.proofs.Cost.{costed-0, costed-range, plannable}
use Rattle.ways.specs.Closure.{loops}
use Rattle.ways.proofs.Totals.{work-le}
use Rattle.shares.proofs.Fair.{path-le}
use Rattle.plans.specs.Diagram.{path}
use Rattle.plans.specs.Calls.{on_table, unplanned, planned}
use Rattle.plans.specs.Inner.Table.{table_plan}
use Rattle.plans.proofs.Table.{path-some, segmented}
use Rattle.plans.proofs.Tests.{on-loop, on_fits, refused-out}
use Rattle.sheets.specs.Lines.{refused_line}
use Rattle.sheets.specs.Printed.{table_sheet, sheet_cost}
use Rattle.graphsheets.specs.Sheet.{relaxed}

-- the path without a cost
pub path-free : (t : TaskTable) → path (costed t sheet_cost) ≡ path t
path-free t = ap (λ (x : TaskTable). path x) (costed-0 t)

module _ {t : TaskTable} (r : InRange t) where
  -- the table can be planned, with the cost 0 and without one
  pub costed-ready : Plannable (costed t sheet_cost)
  costed-ready = plannable (costed-range r (omega arith))

  pub ready : Plannable t
  ready = rw costed-0 at costed-ready

  module _ (f : loops t.parents t.count ≡ false) where
    pub path-low : 1 ≤ path t
    path-low = path-some ready f

    pub path-high : path t ≤ count_max * execution_max
    path-high = le_trans (path-le (segmented ready f (path t) (le_refl (path t)))) (work-le t.execution t.count execution_max r.execution-high r.count-high)

    -- so it can be planned with twice the path
    relaxed-plain : Plannable (relaxed t)
    relaxed-plain = let p = ready in record {
      id-low = p.id-low;
      id-high = p.id-high;
      period-high = omega (arith, path-high);
      count-high = p.count-high;
      some_runs = p.some_runs;
      run-high = p.run-high;
      run_past = p.run_past;
      parents-below = p.parents-below;
      parents-past = p.parents-past;
    }

    pub relaxed-ready : Plannable (costed (relaxed t) sheet_cost)
    relaxed-ready = rw costed-0 relaxed-plain

  -- at the largest period only a loop refuses it, and that is the loop at any period
  pub refused-loop : (words : List ℕ) {a : Answer} → t.period ≡ period_max → a ≡ (on_table (unplanned words) (planned words) (costed t sheet_cost)).answer → (a.refusal ≡ 0 → ⊥)
      → refused_line (refusal_of a) ≡ on_table refused_line table_sheet (costed (relaxed t) sheet_cost)
  refused-loop words {a} largest answered n = by (loops t.parents t.count) refl
    where
      by : (b : Bool) → loops t.parents t.count ≡ b → refused_line (refusal_of a) ≡ on_table refused_line table_sheet (costed (relaxed t) sheet_cost)
      by true e = rw (answered, on-loop (unplanned words) (planned words) (costed t sheet_cost) e) (sym (on-loop refused_line table_sheet (costed (relaxed t) sheet_cost) e))
      by false e = absurd (n (rw (answered, on_fits (unplanned words) (planned words) (costed t sheet_cost) e (omega (arith, path-free t, path-high e)))))

  -- the same of `refused told`, as planning leaves it
  pub refused-relaxed : (words : List ℕ) {told : Refusal} {w : List ℕ} → t.period ≡ period_max → record { answer = refused told; lent = w } ≡ table_plan (accepted 0) words (costed t sheet_cost)
      → refused_line told ≡ on_table refused_line table_sheet (costed (relaxed t) sheet_cost)
  refused-relaxed words {told} largest e =
      refused-loop words {a = refused told} largest (ap (λ (x : After (List ℕ)). x.answer) e) (refused-out (accepted 0) words (costed t sheet_cost) {r = told} e).0

-- The row of a table that has a plan stands: each of its densities is at most two millions, and that of a node that runs is above 0; and the shortest
-- deadline is that of a node that runs, which gets at least half its execution and is within the period.
use Prim.Native.Nat.{◌*◌, ◌≤◌}
use native.Mathlib.Nat.{le_trans, mul-le-mul_right}
use native.Mathlib.Omega.{arith}
use Rattle.plain.specs.At.{at}
use Rattle.plain.proofs.Sums.{max_to-le, le-max_to}
use Rattle.tables.specs.declared.TaskTable.{TaskTable}
use Rattle.tables.specs.Limits.{period_max, run_max}
use Rattle.ways.specs.Totals.{longest_of}
use Rattle.ways.proofs.Totals.{work-le}
use Rattle.shares.proofs.Bounds.{over-high}
use Rattle.plans.specs.Diagram.{longest}
use Rattle.plans.specs.Shares.{over, shortest}
use Rattle.plans.specs.Inner.Planned.{Planned}
use Rattle.plans.proofs.Table.{cutting}
use Rattle.plans.proofs.Kept.{kept}
use Rattle.plans.proofs.Figures.{density-some, density-most, shortest-here}
use Rattle.boards.specs.Sound.{Standing}
use Rattle.boards.proofs.Figures.{task_row-standing}
use Rattle.admissions.specs.Admission.{row_of}

module _ {t : TaskTable} (ok : Planned t) where
  -- the longest execution is one that runs, and no more than the limit
  longest-in : (1 ≤ longest t) × (longest t ≤ run_max)
  unfolding longest_of
  longest-in =
      let v = ok.range.some_runs in
      (le_trans v.2 (le-max_to t.count (at t.execution) v.0 v.1), max_to-le t.count run_max (at t.execution) (λ k h. ok.range.run-high k))

  -- Q is at most twice the shortest deadline, since an execution that runs is 1 at least
  over-half : over t ≤ 2 * shortest t
  over-half =
      let w = shortest-here ok in
      let half = (kept ok).at-least-half w.0 w.1 in
      let one = mul-le-mul_right (over t) w.2 in
      let same = w.3 in
      omega arith

  -- and that is within the longest period
  shortest-high : shortest t ≤ period_max * over t
  shortest-high =
      let w = shortest-here ok in
      let inside = (kept ok).within-period w.0 w.1 in
      let most = mul-le-mul_right (over t) ok.range.period-high in
      let same = w.3 in
      omega arith

  pub row-standing : Standing (row_of t)
  row-standing =
      let r = ok.range in
      let v = r.some_runs in
      task_row-standing (record {
        id-low = r.id-low;
        id-high = r.id-high;
        nodes-high = r.count-high;
        some = (v.0, v.1, density-some ok v.0 v.1 v.2);
        density-high = density-most ok;
        longest-low = longest-in.0;
        longest-high = longest-in.1;
        over-low = (kept ok).over-some;
        over-high = over-high (cutting ok) r.period-high (work-le t.execution t.count _ r.run-high r.count-high);
        over-half = over-half;
        shortest-high = shortest-high;
      })

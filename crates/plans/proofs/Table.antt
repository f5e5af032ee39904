-- A table without a loop has a timing diagram. Where its path fits the period, the cut gives the shares what they ask: the segments' lengths sum
-- to the path, their threads times lengths to the work, none is empty or idle, and there is one, because some node runs.
use Rattle.std.specs.Prelude.{Ok}
use mathlib.Core.Path.{◌≡◌, refl, sym, ◌∙◌}
use mathlib.Core.Bool.{false}
use mathlib.Core.List.{List}
use Prim.Native.Nat.{ℕ, ◌≤◌, ◌<◌}
use native.Mathlib.Omega.{arith}
use Rattle.plain.specs.At.{at}
use Rattle.tables.specs.declared.TaskTable.{TaskTable}
use Rattle.tables.specs.Limits.{cost_max}
use Rattle.tables.specs.Cost.{costed}
use Rattle.tables.specs.Inner.Plannable.{Plannable}
use Rattle.tables.proofs.Cost.{costed-range, plannable}
use Rattle.records.specs.Nodes.{with_table}
use Rattle.records.specs.Reading.{reading_of}
use Rattle.records.proofs.Answers.{table-range}
use Rattle.ways.specs.Reaches.{Reaches}
use Rattle.ways.specs.Inner.Tidy.{Tidy}
use Rattle.ways.specs.Closure.{loops}
use Rattle.ways.specs.Totals.{work_of, path_of}
use Rattle.ways.proofs.Closure.{loops-no}
use Rattle.ways.proofs.Totals.{path-ge}
use Rattle.segments.specs.Cut.{latest}
use Rattle.segments.specs.Inner.Diagram.{Diagram}
use Rattle.segments.proofs.Cuts.{cut-none}
use Rattle.segments.proofs.Segments.{before-segment, length_of-pos, lengths-sum}
use Rattle.segments.proofs.Diagram.{some-thread}
use Rattle.segments.proofs.Shares.{work-sum}
use Rattle.diagrams.proofs.Diagram as diagrams
use Rattle.shares.specs.Inner.Segmented.{Segmented}
use Rattle.plans.specs.Diagram.{start, finish, work, path, segment_count, threads_in, length_in}
use Rattle.plans.specs.Accepted.{Accepted}
use Rattle.plans.specs.Inner.Planned.{Planned}

module _ {t : TaskTable} (r : Plannable t) where
  -- the parent sets are in range
  pub tidy : Tidy t.parents t.count
  tidy = record { past = r.parents-past; word = r.parents-below }

  -- and where no node is reached from itself, there is a timing diagram
  module _ (f : loops t.parents t.count ≡ false) where
    pub free : (v : ℕ) → Reaches t.parents v v → ⊥
    free = loops-no t.parents t.count tidy f

    pub diagram : Diagram t.count (start t) (finish t) (at t.execution)
    diagram = diagrams.diagram t.parents t.execution t.count tidy free

-- the path is the latest finish
pub path-latest : (t : TaskTable) → path t ≡ latest t.count (finish t)
unfolding path_of
path-latest t = refl

module _ {t : TaskTable} (r : Plannable t) (f : loops t.parents t.count ≡ false) where
  -- a node that runs finishes after 0
  pub path-some : 0 < path t
  path-some =
      let runs = r.some_runs in
      let a = runs.2 in
      let b = (diagram r f).ends runs.0 runs.1 in
      let c = path-ge t.parents t.execution t.count runs.0 in
      omega arith

  -- so there is a segment
  segment-some : 0 < segment_count t
  segment-some =
      let a = path-some in
      let b = path-latest t in
      let c = cut-none t.count (finish t) in
      before-segment t.count (finish t) 0 (omega arith)

  -- what the shares ask of the cut, with any period that the path fits
  pub segmented : (T : ℕ) → path t ≤ T → Segmented T (work t) (path t) (segment_count t) (threads_in t) (length_in t)
  unfolding work_of
  segmented T fits = record {
    path = path-latest t ∙ sym (lengths-sum t.count (finish t));
    work = sym (work-sum (diagram r f) r.count-high);
    threads = some-thread (diagram r f) r.count-high;
    lengths = length_of-pos t.count (finish t);
    within = fits;
    some = segment-some;
  }

module _ {t : TaskTable} (ok : Planned t) where
  pub drawn : Diagram t.count (start t) (finish t) (at t.execution)
  drawn = diagram ok.range ok.free

  pub cutting : Segmented t.period (work t) (path t) (segment_count t) (threads_in t) (length_in t)
  cutting = segmented ok.range ok.free t.period ok.fits

-- a table that was read can be planned with any cost in range
pub read-plannable : (bytes : List ℕ) {table : TaskTable} {cost : ℕ} → with_table (Ok table) ≡ reading_of bytes → cost ≤ cost_max → Plannable (costed table cost)
read-plannable bytes is allowed = plannable (costed-range (table-range bytes _ is) allowed)

-- every accepted table has a plan
pub plans-accepted : {t : TaskTable} → Accepted t → Planned t
plans-accepted a = record { range = plannable a.range; free = a.free; fits = a.fits }

-- The run of a table is cut where the table is: its times are the cuts, so what is written of its segments are the table's threads and lengths,
-- and the words hold what the shares ask.
use mathlib.Core.Path.{◌≡◌, sym, ap₂, ◌∙◌}
use mathlib.Core.List.{List}
use Prim.Native.Nat.{ℕ, suc, ◌-◌, ◌≤◌, ◌<◌}
use native.Mathlib.Omega.{arith}
use lib.ListN.{length}
use Rattle.plain.specs.At.{at}
use Rattle.tables.specs.declared.TaskTable.{TaskTable}
use Rattle.ways.proofs.Totals.{work-le}
use Rattle.segments.specs.Cut.{length_of}
use Rattle.segments.specs.Inner.Ended.{length_by, CutIn}
use Rattle.segments.specs.Inner.Listed.{threads_of, enders_of}
use Rattle.segments.specs.Inner.Words.{CutWords}
use Rattle.segments.proofs.Cuts.{cut_step}
use Rattle.segments.proofs.Segments.{segments-le}
use Rattle.segments.proofs.Running.{threads-word}
use Rattle.diagrams.proofs.Times.{times-are-cuts}
use Rattle.sweeps.specs.declared.Trace.{Trace}
use Rattle.shares.specs.declared.Times.{Times}
use Rattle.shares.specs.Inner.Asked.{DealIn}
use Rattle.shares.specs.Deal.{deal}
use Rattle.shares.specs.Words.{threads_at, length_at}
use Rattle.shares.proofs.Deals.{deal-same, segmented-same}
use Rattle.plans.specs.Diagram.{start, finish, work, path, segment_count, threads_in, length_in}
use Rattle.plans.specs.Shares.{deal_of}
use Rattle.plans.specs.Words.{words_max}
use Rattle.plans.specs.Inner.Planned.{Planned}
use Rattle.plans.specs.Inner.Drawn.{SegmentsOf}
use Rattle.plans.proofs.Table.{path-latest, cutting}

-- words with a table's threads and lengths in them hold what the deal asks
pub holds-deal : {t : TaskTable} {w : List ℕ} → Planned t → ((j : ℕ) → j < segment_count t → threads_at w j ≡ threads_in t j) → ((j : ℕ) → j < segment_count t → length_at w j ≡ length_in t j) →
    words_max ≤ length w → DealIn w (segment_count t) t.period (work t) (path t)
holds-deal {t} {w} ok first second l = record {
  room = let a = segments-le t.count (finish t) in let b = ok.range.count-high in omega arith;
  segmented = segmented-same (threads_at w) (length_at w) (λ j h. sym (first j h)) (λ j h. sym (second j h)) (cutting ok);
  period = ok.range.period-high;
  work = work-le t.execution t.count _ ok.range.run-high ok.range.count-high;
  threads = λ j h. rw (first j h) (threads-word t.count (start t) (finish t) j);
}

module _ {t : TaskTable} {n s : ℕ} {times : Times} {trace : Trace} (d : SegmentsOf t n s times trace) where
  -- the path is the table's
  pub path-so : times.path ≡ path t
  path-so = d.cut_up.path-is ∙ sym (path-latest t)

  -- there are no more segments than nodes
  pub few : s ≤ 64
  few = let most = segments-le t.count (finish t) in let nodes = d.table.range.count-high in omega (arith, d.cut_up.count)

  -- each length is the table's
  length-so : (j : ℕ) → j < s → length_by (enders_of trace.segments) trace.finishes j ≡ length_in t j
  unfolding length_of
  length-so j h = ap₂ ◌-◌ (times-are-cuts d.cut_up (suc j) h) (times-are-cuts d.cut_up j (omega arith))

  -- what the writer of the segments asks
  pub cut_in : {room : ℕ} → words_max ≤ room → CutIn (threads_of trace.segments) (enders_of trace.segments) trace.finishes s room
  cut_in l =
      let few = segments-le t.count (finish t) in
      let most = d.table.range.count-high in
      let same = d.cut_up.count in
      record {
        few = omega arith;
        fits = omega arith;
        threads = λ j h. rw (d.cut_up.threads-are j h) (threads-word t.count (start t) (finish t) j);
        node = λ j h. let a = (d.cut_up.closed j h).0 in omega arith;
        up = λ j h. rw (times-are-cuts d.cut_up j (omega arith), times-are-cuts d.cut_up (suc j) h) (cut_step t.count (finish t) j);
      }

  -- what it leaves
  pub words-so : {w₀ w : List ℕ} → CutWords (at (threads_of trace.segments)) (length_by (enders_of trace.segments) trace.finishes) s w₀ w → CutWords (threads_in t) (length_in t) (segment_count t) w₀ w
  words-so c = rw (← d.cut_up.count) (record {
    room = c.room;
    first = λ j h. c.first j h ∙ d.cut_up.threads-are j h;
    second = λ j h. c.second j h ∙ length-so j h;
    third = c.third;
    head = c.head;
    rest = c.rest;
  })

  module _ {w₀ w : List ℕ} (c : CutWords (threads_in t) (length_in t) (segment_count t) w₀ w) where
    -- the table's own deal
    pub deal-so : deal times.period times.work times.path s (threads_at w) (length_at w) ≡ deal_of t
    deal-so = rw (d.cut_up.count, d.period, d.work, path-so) (deal-same t.period (work t) (path t) (segment_count t) (threads_at w) (length_at w) (threads_in t) (length_in t) c.first c.second)

    -- what the deal asks
    pub deal-in : words_max ≤ length w → DealIn w s times.period times.work times.path
    deal-in l = rw (d.cut_up.count, d.period, d.work, path-so) (holds-deal d.table c.first c.second l)

-- The nodes' part of a plan: the front of the words holds the table's segments, so D at the cuts of a node's start and finish are its offset and
-- its end in stretched time; and the part that is filled stands behind the front in the whole.
use mathlib.Core.Path.{◌≡◌, refl, sym, ap, ◌∙◌}
use mathlib.Core.List.{List, [], ◌∷◌, ◌++◌, append_assoc}
use Prim.Native.Nat.{ℕ, ◌+◌, ◌-◌, ◌*◌, ◌≤◌, ◌<◌}
use native.Mathlib.Omega.{arith}
use lib.ListN.{length, take, drop, take-append-drop}
use lib.Seq.{drop-drop, get_or-take}
use borrow.Rule.Slice.PartMut.{put_mid}
use Rattle.plain.specs.At.{at}
use Rattle.plain.specs.Sums.{sum_to}
use Rattle.plain.proofs.Lists.{part-from, put-from}
use Rattle.plain.proofs.Sums.{sum_same}
use Rattle.tables.specs.declared.TaskTable.{TaskTable}
use Rattle.tables.specs.Limits.{count_max}
use Rattle.ways.proofs.Totals.{work-le}
use Rattle.segments.proofs.Segments.{segments-le}
use Rattle.segments.proofs.Shares.{share-by}
use Rattle.diagrams.proofs.Spans.{by-start, by-finish}
use Rattle.sweeps.specs.declared.Trace.{Trace}
use Rattle.shares.specs.Inner.Asked.{SumsIn, NodesIn, numerator_max}
use Rattle.shares.specs.Density.{millionths}
use Rattle.shares.specs.Triples.{triples}
use Rattle.shares.specs.Words.{numerator_at}
use Rattle.shares.specs.Inner.Spans.{offset_by, span_by}
use Rattle.shares.proofs.Bounds.{over-high, whole-high}
use Rattle.shares.proofs.Holding.{HoldsSegments, numerators-are}
use Rattle.shares.proofs.Triples.{triples-hold, triples-same}
use Rattle.plans.specs.Diagram.{finish, segment_count, threads_in, length_in}
use Rattle.plans.specs.Shares.{over, numerator_of, deadline, offset, density}
use Rattle.plans.specs.Words.{word_count, front_words, node_words, written}
use Rattle.plans.specs.Inner.Planned.{Planned}
use Rattle.plans.specs.Inner.Drawn.{NodesOf}
use Rattle.plans.proofs.Table.{drawn, cutting}
use Rattle.plans.proofs.Kept.{offset-by, kept}

-- the greatest numerator bounds what the segments get in all
whole-low : {t : TaskTable} → Planned t → sum_to (segment_count t) (numerator_of t) ≤ numerator_max
unfolding numerator_of
whole-low {t} ok = whole-high (cutting ok) ok.range.period-high (work-le t.execution t.count _ ok.range.run-high ok.range.count-high)

-- words whose front is the plan's hold its segments
front-holds : (t : TaskTable) (w : List ℕ) → take (3 + 3 * segment_count t) w ≡ front_words t → HoldsSegments w (segment_count t) (threads_in t) (length_in t) (numerator_of t)
unfolding front_words
front-holds t w e =
    let whole = sym (take-append-drop (3 + 3 * segment_count t) w) ∙ ap (λ (l : List ℕ). l ++ drop (3 + 3 * segment_count t) w) e in
    rw whole (triples-hold (threads_in t) (length_in t) (numerator_of t) (segment_count t) (over t ∷ segment_count t ∷ t.count ∷ []) (drop (3 + 3 * segment_count t) w) refl)

module _ {t : TaskTable} {n : ℕ} {trace : Trace} {X w : List ℕ} (d : NodesOf t n trace X w) where
  ok : Planned t
  ok = d.table

  h : HoldsSegments w (segment_count t) (threads_in t) (length_in t) (numerator_of t)
  h = front-holds t w d.front

  -- the head is read back
  head : (k : ℕ) → k < 3 + 3 * segment_count t → at w k ≡ at (front_words t) k
  head k l = sym (get_or-take (3 + 3 * segment_count t) w k 0 l) ∙ ap (λ (x : List ℕ). at x k) d.front

  over-read : at w 0 ≡ over t
  unfolding front_words
  over-read = head 0 (omega arith)

  pub segments-read : at w 1 ≡ segment_count t
  unfolding front_words
  segments-read = head 1 (omega arith)

  few : segment_count t ≤ count_max
  few = let a = segments-le t.count (finish t) in let b = ok.range.count-high in omega arith

  -- the front leaves room for every node
  pub room : 3 + 3 * at w 1 + 3 * n ≤ length w
  room = let a = few in let b = ok.range.count-high in let c = d.room in let e = segments-read in let g = d.count in omega arith

  -- what the running sum over the segments asks
  pub sums-in : SumsIn w (at w 1)
  sums-in = rw segments-read (record {
    room = let a = few in let b = d.room in omega arith;
    few = few;
    numerators = let a = numerators-are h in let b = whole-low ok in omega arith;
  })

  -- and what it gives: at the cut of its start a node has its offset, and at that of its finish offset and deadline
  module _ (D : List ℕ) (at_cut : (j : ℕ) → j ≤ at w 1 → at D j ≡ sum_to j (numerator_at w)) where
    summed : (j : ℕ) → j ≤ segment_count t → at D j ≡ sum_to j (numerator_of t)
    summed j l = at_cut j (rw segments-read l) ∙ sum_same j (numerator_at w) (numerator_of t) (λ k g. h.numerators k (omega arith))

    offsets : (v : ℕ) → v < t.count → offset_by D trace.first v ≡ offset t v
    offsets v l = summed (at trace.first v) (d.spanned.first v l).0 ∙ sym (by-start d.spanned (numerator_of t) v l) ∙ sym (offset-by ok v l)

    ends : (v : ℕ) → v < t.count → at D (at trace.last v) ≡ offset t v + deadline t v
    unfolding deadline
    ends v l =
        let a = offset-by ok v l in
        let b = share-by (drawn ok) (numerator_of t) v l in
        summed (at trace.last v) (d.spanned.last v l).0 ∙ sym (by-finish d.spanned (numerator_of t) v l) ∙ omega arith

    deadlines : (v : ℕ) → v < t.count → span_by D trace.first trace.last v ≡ deadline t v
    deadlines v l = let a = offsets v l in let b = ends v l in omega arith

    -- what the writer of the node part asks
    pub nodes-in : {words : ℕ} → 3 * n ≤ words → NodesIn D trace.first trace.last X n (at w 0) words
    nodes-in k = rw (d.count, d.executions) (record {
      count = ok.range.count-high;
      room = rw d.count at k;
      cuts = λ v l. let a = (d.spanned.first v l).0 in let b = (d.spanned.last v l).0 in let c = few in (omega arith, omega arith);
      runs = λ v l. let a = offsets v l in let b = ends v l in omega arith;
      each = λ v l. rw (deadlines v l, over-read) (record {
        execution-high = ok.range.run-high v;
        over-high = over-high (cutting ok) ok.range.period-high (work-le t.execution t.count _ ok.range.run-high ok.range.count-high);
        numerator-high = let a = (kept ok).within-period v l in let b = whole-low ok in let e = (kept ok).whole-period in omega arith;
      });
    })

    -- the triples that it writes
    pub nodes-so : triples (offset_by D trace.first) (span_by D trace.first trace.last) (λ v. millionths (at X v) (at w 0) (span_by D trace.first trace.last v)) n ≡ node_words t
    unfolding node_words density
    nodes-so = rw (d.count, d.executions) (triples-same _ _ _ (offset t) (deadline t) (density t) t.count offsets deadlines (λ v l. rw (deadlines v l, over-read)))

  -- the part filled, in the whole
  pub whole-plan : {xs ys : List ℕ} → xs ≡ node_words t → (let b = 3 + 3 * at w 1 in ys ≡ xs ++ drop (3 * n) (take (length w - b) (drop b w))) → (let b = 3 + 3 * at w 1 in put_mid b (length w - b) w ys ≡ written t w)
  whole-plan {xs} {ys} q e =
      let b = 3 + 3 * at w 1 in
      put-from b w ys (omega (arith, room))
      ∙ rw (e, q, d.count, part-from b w, drop-drop (3 * t.count) b w, segments-read, d.front) (sym (append_assoc (front_words t) (node_words t) (drop (word_count (segment_count t) t.count) w)))

-- Our own plan, written as a plan record, is accepted: its words are small, since what they hold is bounded by the limits, so it is written; what is written reads back as the
-- same words; and these keep the rules.
use Rattle.std.specs.Prelude.{Ok}
use mathlib.Core.Path.{◌≡◌, refl, sym, ap, ap₂, ◌∙◌}
use mathlib.Core.List.{List, [], ◌++◌, append-nil}
use Prim.Native.Nat.{ℕ, zero, suc, ◌+◌, ◌≤◌, ◌<◌}
use native.Mathlib.Nat.{le_refl}
use native.Mathlib.Omega.{arith}
use lib.ListN.{length, take, drop}
use lib.Seq.{take_at}
use Rattle.plain.specs.At.{at}
use Rattle.plain.proofs.Sums.{sum-under}
use Rattle.tables.specs.declared.TaskTable.{TaskTable}
use Rattle.tables.specs.Limits.{count_max, density_max, cost_max}
use Rattle.records.specs.Reading.{reading_of}
use Rattle.segments.proofs.Segments.{segments-le}
use Rattle.segments.proofs.Running.{threads-word}
use Rattle.shares.specs.Triples.{triples}
use Rattle.shares.specs.Inner.Asked.{numerator_max}
use Rattle.shares.proofs.Bounds.{over-high, length_high}
use Rattle.shares.proofs.Densities.{density-high}
use Rattle.plans.specs.Diagram.{start, finish, segment_count, threads_in, length_in}
use Rattle.plans.specs.Shares.{over, numerator_of, deadline, offset, density}
use Rattle.plans.specs.Words.{word_count, words_max, front_words, node_words, written}
use Rattle.plans.specs.Calls.{task_of}
use Rattle.plans.specs.Inner.Planned.{Planned}
use Rattle.plans.proofs.Table.{cutting}
use Rattle.plans.proofs.Kept.{kept}
use Rattle.plans.proofs.Read.{at-segments, at-nodes, length-plan}
use Rattle.plans.proofs.Tests.{on_fits, task-read}
use Rattle.planreaders.specs.Plan.{PlanRead, on_plan, plan_of}
use Rattle.planreaders.specs.Reading.{unread, filled}
use Rattle.planwriters.specs.Writing.{value_limit, plan_max, plan_record_of}
use Rattle.planwriters.specs.Inner.Parts.{count_of}
use Rattle.planwriters.specs.Inner.Fits.{Small, Counted, Fits}
use Rattle.planwriters.proofs.Small.{small-before, small-append}
use Rattle.planwriters.proofs.Numbers.{plan-length, counted-whole, parts-numbers-small}
use Rattle.planwriters.proofs.Trip.{write-back}
use Rattle.judges.specs.Judging.{broken_of, judged, judged_for, judge_call}
use Rattle.judges.proofs.Asked.{work-high, whole-high}
use Rattle.judges.proofs.Own.{own-keeps}
use Rattle.judges.proofs.Rules.{keeps-all}
use Rattle.judges.proofs.Tests.{is-kept, words-enough, cost-fits}

drop-none : (k : ℕ) → drop {A = ℕ} k [] ≡ []
drop-none zero = refl
drop-none (suc k) = refl

-- triples of small numbers
small-none : Small []
small-none = record { each = λ k. omega arith }

small-triples : (f g h : ℕ → ℕ) (n : ℕ) → ((v : ℕ) → v < n → f v < value_limit) → ((v : ℕ) → v < n → g v < value_limit) → ((v : ℕ) → v < n → h v < value_limit) → Small (triples f g h n)
unfolding triples
small-triples f g h zero p q r = small-none
small-triples f g h (suc n) p q r =
    small-append (small-triples f g h n (λ v l. p v (omega arith)) (λ v l. q v (omega arith)) (λ v l. r v (omega arith)))
    (small-before (p n (omega arith)) (small-before (q n (omega arith)) (small-before (r n (omega arith)) small-none)))

module _ {t : TaskTable} (ok : Planned t) where
  -- the plan's words, and nothing behind them
  abbrev plan : List ℕ
  plan = front_words t ++ node_words t

  few : segment_count t ≤ count_max
  few = let a = segments-le t.count (finish t) in let b = ok.range.count-high in omega arith

  numerator-high : (j : ℕ) → j < segment_count t → numerator_of t j ≤ numerator_max
  numerator-high j h = let a = sum-under (numerator_of t) j (segment_count t) h in let b = (kept ok).whole-period in let c = whole-high ok in omega arith

  node-high : (v : ℕ) → v < t.count → offset t v + deadline t v ≤ numerator_max
  node-high v h = let a = (kept ok).within-period v h in let b = whole-high ok in omega arith

  rate-high : (v : ℕ) → v < t.count → density t v ≤ density_max
  unfolding density
  rate-high v h = density-high (at t.execution v) (over t) (deadline t v) ((kept ok).at-least-half v h)

  -- they are small
  plan-small : Small plan
  unfolding front_words node_words
  plan-small =
      let head-high = over-high (cutting ok) ok.range.period-high (work-high ok) in
      small-append
      (small-append (small-before (omega arith) (small-before (let a = few in omega arith) (small-before (let a = ok.range.count-high in omega arith) small-none)))
      (small-triples (threads_in t) (length_in t) (numerator_of t) (segment_count t)
      (λ j h. let a = threads-word t.count (start t) (finish t) j in omega arith)
      (λ j h. let a = length_high (cutting ok) ok.range.period-high (work-high ok) j h in omega arith)
      (λ j h. let a = numerator-high j h in omega arith)))
      (small-triples (offset t) (deadline t) (density t) t.count
      (λ v h. let a = node-high v h in omega arith)
      (λ v h. let a = node-high v h in omega arith)
      (λ v h. let a = rate-high v h in omega arith))

  module _ (old : List ℕ) where
    abbrev own : List ℕ
    own = written t old

    count-is : count_of own ≡ word_count (segment_count t) t.count
    count-is = ap₂ word_count (at-segments t old) (at-nodes t old)

    -- the words that the counts speak of are the plan
    front : take (count_of own) own ≡ plan
    front = take_at plan (drop (word_count (segment_count t) t.count) old) (count_of own) (length-plan t old ∙ sym count-is)

    counted : words_max ≤ length own → Counted own
    counted h = record {
      enough = h;
      segments-low = rw (at-segments t old) (cutting ok).some;
      segments-high = rw (at-segments t old) few;
      nodes-low = rw (at-nodes t old) (let a = ok.range.some_runs.1 in omega arith);
      nodes-high = rw (at-nodes t old) ok.range.count-high;
    }

    module _ (id : ℕ) (small : id < value_limit) (h : words_max ≤ length own) where
      -- so it is written wherever there is room
      own-fits : {room : ℕ} → length (plan_record_of id own) ≤ room → Fits own room id
      own-fits room = record { counted = counted h; small = parts-numbers-small own (counted-whole (counted h)) id small (rw front plan-small); enough = room }

      pub own-written : {room : ℕ} → plan_max ≤ room → Fits own room id
      own-written {room} m = let c = counted h in own-fits (omega (arith, plan-length id own c.segments-high c.nodes-high))

      -- and reads back
      pub own_back : plan_of (plan_record_of id own) ≡ PlanRead.read id (take (count_of own) own)
      own_back = write-back (own-fits (le_refl (length (plan_record_of id own))))

    -- it keeps the rules, and it is of the task
    kept-front : broken_of t (take (count_of own) own) ≡ 0
    kept-front =
        let none : written t [] ≡ plan = ap (λ (rest : List ℕ). plan ++ rest) (drop-none (word_count (segment_count t) t.count)) ∙ append-nil plan in
        ap (broken_of t) (front ∙ sym none) ∙ keeps-all t (written t []) (own-keeps ok [])

    count-front : at (take (count_of own) own) 2 ≡ t.count
    unfolding front_words
    count-front = ap (λ (w : List ℕ). at w 2) front

-- so the judge accepts it, for the record that it was made from
module _ (bytes : List ℕ) (cost : ℕ) (read : (reading_of bytes).outcome ≡ Ok tt) (fits : cost ≤ cost_max) (ok : Planned (task_of bytes cost)) (old words : List ℕ) where
  pub own-judged : (task_of bytes cost).id < value_limit → words_max ≤ length (written (task_of bytes cost) old) → words_max ≤ length words → (let t = task_of bytes cost in let own = written t old in
      judge_call bytes (plan_record_of t.id own) words cost ≡ filled words t.id (take (count_of own) own))
  own-judged small h room =
      let t = task_of bytes cost in
      let own = written t old in
      let p = plan_record_of t.id own in
      cost-fits bytes p words cost fits
      ∙ task-read (unread words) (judged_for p words) bytes cost read
      ∙ on_fits (unread words) (judged_for p words) t ok.free ok.fits
      ∙ words-enough p words t room
      ∙ ap (on_plan (unread words) (judged words t)) (own_back ok old t.id small h)
      ∙ is-kept words t t.id (take (count_of own) own) refl (count-front ok old) refl (kept-front ok old)

-- No count is larger than its records allow: of one record each is small, since a task has at most 64 nodes and no more segments.
use mathlib.Core.Path.{◌≡◌, sym, ◌∙◌}
use mathlib.Core.Bool.{Bool, true, false, not}
use mathlib.Core.Logic.{⊎_elim}
use mathlib.Core.List.{List}
use Prim.Native.Nat.{ℕ, ◌+◌, ◌*◌, ◌≤◌, ◌<◌, zero-le}
use native.Mathlib.Omega.{arith}
use lib.Dec.{eqb, ltb}
use lib.ListN.{length}
use Rattle.std.specs.Prelude.{Result, Ok, Err, MatchResult}
use Rattle.plain.specs.Pick.{one}
use Rattle.plain.specs.At.{at, tab}
use Rattle.plain.specs.Sums.{total, max_to}
use Rattle.plain.proofs.Lists.{lt-or-ge, at-tab, at-tab-past}
use Rattle.plain.proofs.Sums.{sum_same, sum-add, sum_ones, total-most}
use Rattle.refusals.specs.declared.Refusal.{Refusal}
use Rattle.tables.specs.declared.TaskTable.{TaskTable}
use Rattle.tables.specs.Limits.{count_max, cost_max, work_max, million}
use Rattle.ways.proofs.Totals.{work-le}
use Rattle.segments.proofs.Segments.{segments-le}
use Rattle.shares.specs.Heavy.{is_heavy, heavies}
use Rattle.shares.proofs.Heavies.{one-le}
use Rattle.plans.specs.Accepted.{Accepted}
use Rattle.plans.specs.Diagram.{finish, work, path, segment_count, threads_in}
use Rattle.plans.specs.Shares.{density}
use Rattle.plans.specs.Calls.{on_task}
use Rattle.plans.proofs.Table.{plans-accepted}
use Rattle.buildings.specs.declared.Sums.{Sums}
use Rattle.buildings.specs.Task.{of_accepted, refused_by, heavy_in, light_in, dense_in}
use Rattle.buildings.specs.Counts.{numbers_max, counts_of}
use Rattle.buildings.specs.Inner.Tally.{task_sums, tally_of}
use Rattle.buildings.specs.Inner.Sized.{Sized, Low}
use Rattle.buildings.proofs.Alone.{own-high, Alone, alone}
use Rattle.buildings.proofs.Alone.Alone.{turned, taken}

-- a test or its opposite counts
one-or-not : (b : Bool) → one b + one (not b) ≡ 1
one-or-not true = omega arith
one-or-not false = omega arith

-- each segment is heavy or light
pub heavy-light : (t : TaskTable) → heavy_in t + light_in t ≡ segment_count t
unfolding heavies
heavy-light t =
    sym (sum-add (segment_count t) (λ j. one (is_heavy t.period (work t) (path t) (threads_in t j))) (λ j. one (not (is_heavy t.period (work t) (path t) (threads_in t j)))))
    ∙ sum_same (segment_count t) _ (λ j. 1) (λ j h. one-or-not (is_heavy t.period (work t) (path t) (threads_in t j)))
    ∙ sum_ones (segment_count t)

-- what an accepted task adds
task-low : {t : TaskTable} → Accepted t → Low (task_sums t)
task-low {t} ok =
    let p = plans-accepted ok in
    let few = segments-le t.count (finish t) in
    let most = p.range.count-high in
    let kinds = heavy-light t in
    record {
      nodes = omega arith;
      segments = omega arith;
      work = work-le t.execution t.count _ p.range.run-high most;
      heavy = omega arith;
      light = omega arith;
      dense = one-le (ltb million (max_to t.count (density t)));
    }

module _ (cost : ℕ) (allowed : cost ≤ cost_max) where
  -- what a record adds
  pub tally-low : (bytes : List ℕ) → MatchResult (tally_of bytes cost) Low (λ r. r.number < numbers_max)
  unfolding tally_of
  tally-low bytes = by (alone bytes cost allowed)
    where
      by : Alone bytes cost → MatchResult (on_task Err (λ t. Ok (task_sums t)) bytes cost) Low (λ r. r.number < numbers_max)
      by (turned r own is) = rw (is (Result Sums Refusal) Err (λ t. Ok (task_sums t))) (own-high own)
      by (taken ok is) = rw (is (Result Sums Refusal) Err (λ t. Ok (task_sums t))) (task-low ok)

  -- what is at most so much of every accepted task is so of every record
  accepted-most : (f : TaskTable → ℕ) (most : ℕ) → ((t : TaskTable) → Accepted t → f t ≤ most) → (bytes : List ℕ) → of_accepted f cost bytes ≤ most
  accepted-most f most h bytes = by (alone bytes cost allowed)
    where
      by : Alone bytes cost → of_accepted f cost bytes ≤ most
      by (turned r own is) = rw (is ℕ (λ _. 0) f) zero-le
      by (taken ok is) = rw (is ℕ (λ _. 0) f) (h _ ok)

  refused-most : (k : ℕ) (bytes : List ℕ) → refused_by k cost bytes ≤ 1
  refused-most k bytes = by (alone bytes cost allowed)
    where
      by : Alone bytes cost → refused_by k cost bytes ≤ 1
      by (turned r own is) = rw (is ℕ (λ r. one (eqb r.number k)) (λ _. 0)) (one-le (eqb r.number k))
      by (taken ok is) = rw (is ℕ (λ r. one (eqb r.number k)) (λ _. 0)) zero-le

  module _ (records : List (List ℕ)) where
    -- a sum over the records
    summed : (f : TaskTable → ℕ) (most : ℕ) → ((t : TaskTable) → Accepted t → f t ≤ most) → total (of_accepted f cost) records ≤ length records * most
    summed f most h = total-most (of_accepted f cost) most (accepted-most f most h) records

    -- a count by number
    pub number-most : (k : ℕ) → at (tab numbers_max (λ k. total (refused_by k cost) records)) k ≤ length records
    number-most k = ⊎_elim
        (λ (h : k < numbers_max). rw (at-tab numbers_max (λ k. total (refused_by k cost) records) k h) (omega (arith, total-most (refused_by k cost) 1 (refused-most k) records)))
        (λ (h : numbers_max ≤ k). rw (at-tab-past numbers_max (λ k. total (refused_by k cost) records) k h) zero-le)
        (lt-or-ge k numbers_max)

    pub counts-sized : Sized (length records) (counts_of records cost)
    unfolding counts_of
    counts-sized = record {
      records = omega arith;
      accepted = omega (arith, summed (λ t. 1) 1 (λ t ok. omega arith));
      refused = number-most;
      nodes = summed (λ t. t.count) count_max (λ t ok. (task-low ok).nodes);
      segments = summed segment_count count_max (λ t ok. (task-low ok).segments);
      work = summed work work_max (λ t ok. (task-low ok).work);
      heavy = summed heavy_in count_max (λ t ok. (task-low ok).heavy);
      light = summed light_in count_max (λ t ok. (task-low ok).light);
      dense = omega (arith, summed dense_in 1 (λ t ok. (task-low ok).dense));
    }

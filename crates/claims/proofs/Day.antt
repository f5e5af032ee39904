-- What holds after every day: the pairing holds of the empty board and every call keeps it; and by it S, M and r are those of the standing tables, so
-- that a verdict on the rows is one on all standing nodes.
use mathlib.Core.Path.{◌≡◌, refl, sym, ap, ◌∙◌}
use mathlib.Core.Logic.{⊎_elim}
use mathlib.Core.List.Memᴰ
use mathlib.Core.List.{List, [], ◌∷◌}
use Prim.Native.Nat.{ℕ, ◌*◌, ◌≤◌, ◌<◌, zero-le}
use native.Mathlib.Nat.{le_antisymm}
use native.Mathlib.Omega.{arith}
use lib.ListN.{length}
use Rattle.plain.specs.At.{at}
use Rattle.plain.specs.Sums.{max_to}
use Rattle.plain.proofs.Lists.{lt-or-ge}
use Rattle.plain.proofs.Sums.{sum_to-le, max_to-le, le-max_to, max_to-is}
use Rattle.tables.specs.declared.TaskTable.{TaskTable}
use Rattle.tables.specs.Limits.{count_max}
use Rattle.tables.proofs.Cost.{plannable}
use Rattle.ways.specs.Totals.{longest_of as longest_of_table}
use Rattle.shares.proofs.Densities.{undivided, density-low}
use Rattle.plans.specs.Shares.{over, shortest as shortest_of_table}
use Rattle.plans.specs.Accepted.{Accepted}
use Rattle.plans.proofs.Table.{plans-accepted}
use Rattle.plans.proofs.Kept.{kept}
use Rattle.plans.proofs.Figures.{shortest-least, shortest-here}
use Rattle.boards.specs.declared.Row.{Row}
use Rattle.boards.specs.Row.{free_row, rows_max, row_at}
use Rattle.boards.specs.Find.{place_of}
use Rattle.boards.specs.Verdict.{sum_of, largest_of, longest_of}
use Rattle.boards.specs.Fractions.{Fraction, shortest}
use Rattle.overheads.specs.ToEnd.{deadline_in, overhead_of}
use Rattle.boards.proofs.Fractions.{RoundedUp, Rounded, yes-exact, exact-yes, yes-exact-to-end, exact-yes-to-end}
use Rattle.overheads.proofs.Overhead.{quotient, greatest-shortest, overhead-is}
use Rattle.boards.proofs.Keeping.{one-row}
use Rattle.admissions.specs.Admission.{row_of}
use Rattle.claims.specs.Calls.{State, empty_day}
use Rattle.claims.specs.Plan.{exact_deadline}
use Rattle.claims.specs.Day.{Among, RowIs, OneRow, of_all, all_nodes, longest_run, overhead_of_all, OwnTimes, DayHolds, Day}
use Rattle.claims.proofs.Plan.{good-plan}
use Rattle.claims.proofs.Exact.{rounds}
use Rattle.claims.proofs.Ask.{yes-fits, fits-yes, yes-fits-to-end, fits-yes-to-end}
use Rattle.claims.proofs.Verdict.{rounded-tables, length-nodes, longest-tables, greatest-tables}
use Rattle.claims.proofs.Standing.{sums_of, max_of, le-max_of, max_of-le}
use Rattle.claims.proofs.Pairing.{figure, Paired, paired-empty, paired_calls, id-some}

-- a table's three figures of its times
timed : {t : TaskTable} → Accepted t → OwnTimes t (row_of t)
unfolding longest_of_table
timed {t} ok = record {
  longest-here =
      let runs = (plans-accepted ok).range.some_runs in
      let some = runs.2 in
      let most = le-max_to t.count (at t.execution) runs.0 runs.1 in
      ⊎_elim
      (λ (z : max_to t.count (at t.execution) ≡ 0). absurd (omega arith))
      (λ (w : (k : ℕ) × (k < t.count) × (max_to t.count (at t.execution) ≡ at t.execution k)). (w.0, w.1, (let e = w.2 in omega arith), w.2))
      (max_to-is t.count (at t.execution));
  longest-most = le-max_to t.count (at t.execution);
  shortest-here = shortest-here (plans-accepted ok);
  shortest-least = λ v h run. (shortest-least (plans-accepted ok) v h run).1;
  own-over = refl;
}

-- where something runs, some table stands
some-table : (ts : List TaskTable) → 1 ≤ longest_run ts → (t : TaskTable) × Among t ts
unfolding longest_run
some-table [] l = absurd (omega arith)
some-table (t ∷ ts) l = (t, Memᴰ.head refl)

-- what the pairing says
module _ {s : State} (p : Paired s) where
  -- a standing table's row is the one with its id
  one : (t : TaskTable) → Among t s.standing → OneRow s.rows t
  one t m =
      let w = p.row t m in
      let place : (k : ℕ) → k < rows_max → RowIs s.rows t k → k ≡ place_of t.id s.rows = λ k h r. one-row p.sound t.id (id-some (p.stand t m)) k h (ap (λ (x : Row). x.id) r) in
      record { place = w.0; within = w.1; here = w.2; only = λ k h r. place k h r ∙ sym (place w.0 w.1 w.2) }

  -- S is the sum over the tables
  sums_same : sum_of s.rows ≡ sums_of (λ r. r.sum) s.standing
  unfolding sum_of
  sums_same = p.sums (λ r. r.sum) refl

  -- what each table's row is at most, every row is
  row-most : (f : Row → ℕ) → f free_row ≡ 0 → (b : ℕ) → ((t : TaskTable) → Among t s.standing → f (row_of t) ≤ b) → (k : ℕ) → k < rows_max → f (row_at s.rows k) ≤ b
  row-most f z b each k h = ⊎_elim
      (λ (e : row_at s.rows k ≡ free_row). rw (ap f e, z) zero-le)
      (λ (w : (t : TaskTable) × Among t s.standing × RowIs s.rows t k). rw (ap f w.2) (each w.0 w.1))
      (p.table k h)

  -- and the other way round
  table-most : (f : Row → ℕ) (b : ℕ) → ((k : ℕ) → k < rows_max → f (row_at s.rows k) ≤ b) → (t : TaskTable) → Among t s.standing → f (row_of t) ≤ b
  table-most f b each t m = let w = p.row t m in let l = each w.0 w.1 in rw (ap f w.2) at l

  -- so what is greatest over the rows is greatest over the tables
  greatest-same : (f : Row → ℕ) → f free_row ≡ 0 → max_to rows_max (figure f s.rows) ≡ max_of f s.standing
  greatest-same f z =
      le_antisymm
      (max_to-le rows_max (max_of f s.standing) (figure f s.rows) (row-most f z (max_of f s.standing) (λ t m. le-max_of f s.standing m)))
      (max_of-le f s.standing (max_to rows_max (figure f s.rows)) (table-most f (max_to rows_max (figure f s.rows)) (le-max_to rows_max (figure f s.rows))))

  -- M and the longest execution
  largest-same : largest_of s.rows ≡ max_of (λ r. r.largest) s.standing
  unfolding largest_of
  largest-same = greatest-same (λ r. r.largest) refl

  longest-same : longest_of s.rows ≡ longest_run s.standing
  unfolding longest_of
  longest-same = greatest-same (λ r. r.longest) refl ∙ sym (longest-tables s.standing)

  -- so they are the rounded sum and largest of all standing nodes
  all-rounded : Rounded (all_nodes s.standing) (sum_of s.rows) (largest_of s.rows)
  all-rounded = rw (sums_same, largest-same) (rounded-tables s.standing p.stand)

  -- the shortest deadline of all standing nodes
  abbrev shortest_run : Fraction
  shortest_run = shortest (of_all exact_deadline s.standing)

  -- r is the longest execution over it, and the greatest quotient over the tables
  overhead-greatest : overhead_of s.rows ≡ max_of (λ r. quotient (longest_run s.standing) (deadline_in r)) s.standing
  overhead-greatest = overhead-is p.sound ∙ rw longest-same (greatest-same (λ r. quotient (longest_run s.standing) (deadline_in r)) (undivided (longest_run s.standing) 0 0 refl))

  overhead-same : overhead_of s.rows ≡ quotient (longest_run s.standing) shortest_run
  overhead-same = overhead-greatest ∙ sym (greatest-shortest (greatest-tables (longest_run s.standing) s.standing p.stand)).1

  -- where something runs, there is a shortest deadline, since a quotient over it is above 0
  shortest-some : 1 ≤ longest_run s.standing → 0 < shortest_run.upper
  shortest-some run =
      let L = longest_run s.standing in
      let (t, m) = some-table s.standing run in
      let ok = plans-accepted (p.stand t m) in
      let runs = ok.range.some_runs in
      let own = density-low L (over t) (shortest_of_table t) run (kept ok).over-some (shortest-least ok runs.0 runs.1 runs.2).0 in
      let most = le-max_of (λ r. quotient L (deadline_in r)) s.standing m in
      ⊎_elim
      (λ (l : 0 < shortest_run.upper). l)
      (λ (z : shortest_run.upper ≤ 0). let none = undivided L shortest_run.lower shortest_run.upper (omega arith) in absurd (omega (arith, overhead-same, overhead-greatest)))
      (lt-or-ge 0 shortest_run.upper)

  overhead-rounded : RoundedUp (overhead_of_all s.standing) (overhead_of s.rows)
  overhead-rounded = rw overhead-same (rounds (longest_run s.standing) shortest_run.lower shortest_run.upper shortest-some).rounded

  -- at most 64 nodes on each of 16 rows
  few-nodes : length (all_nodes s.standing) ≤ rows_max * count_max
  few-nodes =
      let most = sum_to-le rows_max count_max (figure (λ r. r.nodes) s.rows) (row-most (λ r. r.nodes) refl count_max (λ t m. (plannable (p.stand t m).range).count-high)) in
      let same = p.sums (λ r. r.nodes) refl in
      let all = length-nodes s.standing in
      omega arith

  -- all sentences
  holds : DayHolds s.rows s.standing s.admitted
  holds = record {
    sound = p.sound;
    plans-good = λ t m. good-plan (p.admitted t m);
    one-row = one;
    row-times = λ t m. timed (p.stand t m);
    others-free = p.table;
    no-id-twice = p.apart;
    yes-exact = λ m y. yes-exact m all-rounded (yes-fits s.rows m y);
    roomy-yes = λ m low high room. fits-yes s.rows m p.sound low high (exact-yes m all-rounded low (let few = few-nodes in omega arith) room);
    overhead-proper = overhead-rounded.proper;
    yes-exact-to-end = λ m y. yes-exact-to-end m all-rounded overhead-rounded (yes-fits-to-end s.rows m y);
    roomy-yes-to-end = λ m low high room. fits-yes-to-end s.rows m p.sound low high (exact-yes-to-end m all-rounded overhead-rounded low (let few = few-nodes in omega arith) room);
  }

-- the empty board has no table, so that S, M and r are 0
pub no-sum : sum_of empty_day.rows ≡ 0
unfolding sums_of
no-sum = sums_same paired-empty

pub no-largest : largest_of empty_day.rows ≡ 0
unfolding max_of
no-largest = largest-same paired-empty

pub no-overhead : overhead_of empty_day.rows ≡ 0
unfolding max_of
no-overhead = overhead-greatest paired-empty

-- after every list of calls
pub day : Day
day calls = holds (paired_calls calls paired-empty)

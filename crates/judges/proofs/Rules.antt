-- A test that holds says its rule, and the rule makes its test hold: each is an equation or a bound of every node or segment.
use mathlib.Core.Path.{◌≡◌}
use mathlib.Core.Logic.{⊎_elim}
use mathlib.Core.Bool.{Bool, true}
use mathlib.Core.List.{List}
use Prim.Native.Nat.{ℕ, ◌+◌, ◌*◌, ◌≤◌, ◌<◌}
use native.Mathlib.Nat.{eq-or-lt_of_le}
use native.Mathlib.Omega.{arith}
use lib.Dec.{eqb, leb}
use borrow.Author.Tests.{eqb-true, eq-eqb, leb-true, le-leb}
use Rattle.plain.specs.At.{at}
use Rattle.plain.specs.Sums.{sum_to}
use Rattle.plain.specs.Tests.{both, all_to}
use Rattle.plain.proofs.Picks.{true-false}
use Rattle.plain.proofs.Tests.{not-held, both_true, true-both, between-true, true-between, all_to-true, true-all_to}
use Rattle.tables.specs.declared.TaskTable.{TaskTable}
use Rattle.tables.specs.Limits.{over_max}
use Rattle.ways.specs.Ways.{begin_by}
use Rattle.segments.specs.Share.{share}
use Rattle.shares.specs.Density.{millionths}
use Rattle.shares.specs.Words.{threads_at, length_at, numerator_at, offset_at, deadline_at, density_at}
use Rattle.plans.specs.Diagram.{start, finish, work, segment_count, threads_in, length_in}
use Rattle.rules.specs.Rules as tests
use Rattle.trials.specs.Inner.Numbered.{test}
use Rattle.trials.proofs.Firsts as firsts
use Rattle.judges.specs.Judging.{held_to, broken_of}
use Rattle.judges.specs.Rules.{Rule, KeepsAll, Breaks}
use Rattle.judges.specs.Rules.Rule.{fits, cut, shared, summed, followed, halved, thinned, rounded}

-- what holds of each rule's number holds of all
pub eight : (P : ℕ → Type 0) → P 1 → P 2 → P 3 → P 4 → P 5 → P 6 → P 7 → P 8 → (k : ℕ) → 1 ≤ k → k ≤ 8 → P k
eight P a b c d e f g h k l m = upto 8 h (upto 7 g (upto 6 f (upto 5 e (upto 4 d (upto 3 c (upto 2 b (upto 1 a (λ j p q. absurd (omega arith))))))))) k l (omega arith)
  where
    below : {j n : ℕ} → j < n + 1 → j ≤ n
    below b = omega arith

    upto : (n : ℕ) → P n → ((j : ℕ) → 1 ≤ j → j < n → P j) → (j : ℕ) → 1 ≤ j → j < n + 1 → P j
    upto n here before j p q = ⊎_elim (λ (e : j ≡ n). rw e here) (λ (c : j < n). before j p c) (eq-or-lt_of_le (below q))

-- two numbers of every place are equal, or one is at most the other
module _ (n : ℕ) (f g : ℕ → ℕ) where
  pub equal-all : all_to n (λ k. eqb (f k) (g k)) ≡ true → (k : ℕ) → k < n → f k ≡ g k
  equal-all e k h = eqb-true (f k) (g k) (all_to-true n _ e k h)

  pub all-equal : ((k : ℕ) → k < n → f k ≡ g k) → all_to n (λ k. eqb (f k) (g k)) ≡ true
  all-equal e = true-all_to n _ (λ k h. eq-eqb (f k) (g k) (e k h))

  pub most-all : all_to n (λ k. leb (f k) (g k)) ≡ true → (k : ℕ) → k < n → f k ≤ g k
  most-all e k h = leb-true (f k) (g k) (all_to-true n _ e k h)

  pub all_most : ((k : ℕ) → k < n → f k ≤ g k) → all_to n (λ k. leb (f k) (g k)) ≡ true
  all_most e = true-all_to n _ (λ k h. le-leb (f k) (g k) (e k h))

module _ (t : TaskTable) (w : List ℕ) where
  abbrev h : tests.Held
  h = held_to t

  says-1 : tests.over_fits w ≡ true → Rule t w 1
  says-1 e = let b = between-true 1 (at w 0) over_max e in fits b.0 b.1

  holds-1 : Rule t w 1 → tests.over_fits w ≡ true
  holds-1 (fits l h) = true-between 1 (at w 0) over_max l h

  -- one segment of the cut
  abbrev same : ℕ → Bool
  same j = both (eqb (threads_at w j) (threads_in t j)) (eqb (length_at w j) (length_in t j))

  says-2 : tests.same_cut h w ≡ true → Rule t w 2
  says-2 e =
      let b = both_true (eqb (at w 1) (segment_count t)) (all_to (segment_count t) same) e in
      cut (eqb-true (at w 1) (segment_count t) b.0) (λ j l.
      let s = both_true (eqb (threads_at w j) (threads_in t j)) (eqb (length_at w j) (length_in t j)) (all_to-true (segment_count t) same b.1 j l) in
      (eqb-true (threads_at w j) (threads_in t j) s.0, eqb-true (length_at w j) (length_in t j) s.1))

  holds-2 : Rule t w 2 → tests.same_cut h w ≡ true
  holds-2 (cut n e) = true-both (eq-eqb (at w 1) (segment_count t) n)
      (true-all_to (segment_count t) same (λ j l. true-both (eq-eqb (threads_at w j) (threads_in t j) (e j l).0) (eq-eqb (length_at w j) (length_in t j) (e j l).1)))

  says-3 : tests.shared_out h w ≡ true → Rule t w 3
  says-3 e = shared (eqb-true (sum_to (at w 1) (numerator_at w)) (t.period * at w 0) e)

  holds-3 : Rule t w 3 → tests.shared_out h w ≡ true
  holds-3 (shared e) = eq-eqb (sum_to (at w 1) (numerator_at w)) (t.period * at w 0) e

  says-4 : tests.summed h w ≡ true → Rule t w 4
  says-4 e = summed (equal-all t.count (deadline_at w) (share t.count (start t) (finish t) (numerator_at w)) e)

  holds-4 : Rule t w 4 → tests.summed h w ≡ true
  holds-4 (summed e) = all-equal t.count (deadline_at w) (share t.count (start t) (finish t) (numerator_at w)) e

  says-5 : tests.followed h w ≡ true → Rule t w 5
  says-5 e = followed (equal-all t.count (offset_at w) (begin_by t.parents t.count (λ p. offset_at w p + deadline_at w p)) e)

  holds-5 : Rule t w 5 → tests.followed h w ≡ true
  holds-5 (followed e) = all-equal t.count (offset_at w) (begin_by t.parents t.count (λ p. offset_at w p + deadline_at w p)) e

  says-6 : tests.halved h w ≡ true → Rule t w 6
  says-6 e = halved (most-all t.count (λ v. at t.execution v * at w 0) (λ v. 2 * deadline_at w v) e)

  holds-6 : Rule t w 6 → tests.halved h w ≡ true
  holds-6 (halved e) = all_most t.count (λ v. at t.execution v * at w 0) (λ v. 2 * deadline_at w v) e

  says-7 : tests.thinned h w ≡ true → Rule t w 7
  says-7 e = thinned (most-all (at w 1) (λ j. threads_at w j * length_at w j * at w 0 * t.period) (λ j. 2 * work t * numerator_at w j) e)

  holds-7 : Rule t w 7 → tests.thinned h w ≡ true
  holds-7 (thinned e) = all_most (at w 1) (λ j. threads_at w j * length_at w j * at w 0 * t.period) (λ j. 2 * work t * numerator_at w j) e

  says-8 : tests.rounded h w ≡ true → Rule t w 8
  says-8 e = rounded (equal-all t.count (density_at w) (λ v. millionths (at t.execution v) (at w 0) (deadline_at w v)) e)

  holds-8 : Rule t w 8 → tests.rounded h w ≡ true
  holds-8 (rounded e) = all-equal t.count (density_at w) (λ v. millionths (at t.execution v) (at w 0) (deadline_at w v)) e

  -- each test by its number
  says : (k : ℕ) → 1 ≤ k → k ≤ 8 → test h w k ≡ true → Rule t w k
  says = eight (λ k. test h w k ≡ true → Rule t w k) says-1 says-2 says-3 says-4 says-5 says-6 says-7 says-8

  holds : (k : ℕ) → 1 ≤ k → k ≤ 8 → Rule t w k → test h w k ≡ true
  holds = eight (λ k. Rule t w k → test h w k ≡ true) holds-1 holds-2 holds-3 holds-4 holds-5 holds-6 holds-7 holds-8

  -- no rule is broken just where all are kept
  pub none-broken : broken_of t w ≡ 0 → KeepsAll t w
  none-broken e k l m = says k l m (firsts.kept h w e k)

  pub keeps-all : KeepsAll t w → broken_of t w ≡ 0
  keeps-all all = firsts.all-kept h w (λ k l m. holds k l m (all k l m))

  -- and one is the first just where it is broken and those before it are kept
  pub first-broken : {k : ℕ} → broken_of t w ≡ k → (k ≡ 0 → ⊥) → Breaks t w k
  first-broken {k} e n =
      let b = firsts.broken-is h w e n in
      (b.low, b.high, λ r. true-false (holds k b.low b.high r) b.here, λ i l m. says i l (let u = b.high in omega arith) (b.before i l m))

  pub broken-first : {k : ℕ} → Breaks t w k → broken_of t w ≡ k
  broken-first {k} (l, m, n, all) = firsts.is-broken h w k (record {
    low = l;
    high = m;
    here = not-held (test h w k) (λ e. n (says k l m e));
    before = λ i a b. holds i a (omega arith) (all i a b);
  })

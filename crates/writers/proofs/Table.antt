-- What the trial of two lists says of their table. Its outcome is that of the ranges; where it came through, its place is the record's length, and the
-- table is in range.
use Prim.Native.Nat.{ℕ, zero, suc, ◌+◌, ◌-◌, ◌^◌, ◌≤◌, ◌<◌, zero-le}
use mathlib.Core.Path.{◌≡◌, refl, sym, ap, ap₂, subst, ◌∙◌}
use mathlib.Core.Logic.{⊎_elim}
use mathlib.Core.Bool.{false}
use mathlib.Core.List.{List, [], ◌∷◌, append-nil}
use native.Mathlib.Nat.{not-suc-le-zero}
use native.Mathlib.Numerals.{add-one}
use native.Mathlib.Omega.{arith}
use lib.ListN.{length, replicate, length-append, length-replicate, get_or-eq_default}
use lib.Pow.{pow_pos}
use borrow.Author.Count.{below_more}
use Rattle.plain.specs.At.{at}
use Rattle.plain.proofs.Lists.{lt-or-ge}
use Rattle.refusals.specs.Numbers.{bad_edition, bad_id, bad_period, bad_count, bad_execution, bad_parent}
use Rattle.std.specs.Prelude.{Ok, Err}
use Rattle.sets.specs.Size.{size_to, size}
use Rattle.sets.proofs.Below.{word_below}
use Rattle.tables.specs.Limits.{edition_max, id_max, period_max, count_max, execution_max, least_execution}
use Rattle.tables.specs.Range.{InRange}
use Rattle.tables.specs.Runs.{all_zero}
use Rattle.tables.proofs.Runs.{some_runs}
use Rattle.numbers.specs.Shortest.{all_shortest}
use Rattle.writers.specs.Record.{numbers_to, numbers_of, record_of, Full}
use Rattle.writers.specs.Ranges.{ranges}
use Rattle.writers.specs.Writing.{filled, table_of, outcome_of}
use Rattle.writers.specs.Inner.Trial.{Trial, passed, node_tried, nodes_tried, head_tried, record_tried}
use Rattle.writers.specs.Inner.Parts.{nodes_to}
use Rattle.writers.proofs.Cases.{HeadPassed, head_passed, nodes-none, nodes-more, nodes-stay, tried-passed, parents-passed}
use Rattle.writers.proofs.Parts.{at-filled, numbers-parts}
use Rattle.writers.proofs.Tried.{at-end, at-stop, Reached, head-reached, node-reached}
use Rattle.writers.proofs.Stood.{Stood, stood-number, stood-node}

-- 64 entries
pub filled-length : (l : List ℕ) → length l ≤ count_max → length (filled l) ≡ count_max
filled-length l h = omega (arith, length-append l (replicate (count_max - length l) 0), length-replicate {A = ℕ} (count_max - length l) 0)

module _ (X P : List ℕ) (x d p : ℕ) where
  -- what holds after the head, and is kept by each node of the table, holds after each node of the lists: the two have the same nodes
  along-nodes : (Q : ℕ → Trial → Type 0) → Q 0 (head_tried x d p (length X))
      → ((i : ℕ) (r : Trial) → i < length X → Q i r → Q (i + 1) (node_tried (least_execution x) (length X) (at (filled X) i) (at (filled P) i) r))
      → (i : ℕ) → i ≤ length X → Q i (nodes_tried (least_execution x) X P (head_tried x d p (length X)) i)
  along-nodes Q head more zero l = subst (Q 0) (nodes-none (least_execution x) X P (head_tried x d p (length X))) head
  along-nodes Q head more (suc i) l =
      let r = nodes_tried (least_execution x) X P (head_tried x d p (length X)) i in
      let same = ap₂ (λ (e w : ℕ). node_tried (least_execution x) (length X) e w r) (at-filled X i) (at-filled P i) in
      subst (λ (k : ℕ). Q k (nodes_tried (least_execution x) X P (head_tried x d p (length X)) k)) (add-one i)
      (subst (Q (i + 1)) (same ∙ nodes-more (least_execution x) X P (head_tried x d p (length X)) i refl) (more i r l (along-nodes Q head more i (omega arith))))

  reached : length X ≤ count_max → (i : ℕ) → i ≤ length X → Reached (table_of X P x d p) i (nodes_tried (least_execution x) X P (head_tried x d p (length X)) i)
  reached c = along-nodes (Reached (table_of X P x d p)) (head-reached (table_of X P x d p)) (λ i r l. node-reached (table_of X P x d p) i r l c)

  -- the outcome: where the head is refused nothing after it matters, else every node is reached
  pub trial-ranges : outcome_of (record_tried X P x d p) ≡ ranges (numbers_of (table_of X P x d p))
  unfolding numbers_to
  trial-ranges = by (head_tried x d p (length X)) refl
    where
      by : (r : Trial) → head_tried x d p (length X) ≡ r → outcome_of (record_tried X P x d p) ≡ ranges (numbers_of (table_of X P x d p))
      by (Ok place) e =
          let fine = head_passed x d p (length X) place e in
          let all = reached fine.count.1 (length X) (omega arith) in
          sym (ap ranges (sym (append-nil (numbers_of (table_of X P x d p)))) ∙ all.goes [] ∙ at-end _ _)
      by (Err y) e =
          ap outcome_of (nodes-stay (least_execution x) X P _ 0 (length X) y (omega arith) (sym (nodes-none (least_execution x) X P (head_tried x d p (length X))) ∙ e))
          ∙ sym (ap ranges (numbers-parts X P x d p (length X)) ∙ (head-reached (table_of X P x d p)).goes (nodes_to X P (length X)) ∙ at-stop _ _ _ y e)

  -- the place
  stood-head : Stood (head_tried x d p (length X)) (numbers_to (table_of X P x d p) 0)
  unfolding numbers_to all_shortest
  stood-head =
      let one = stood-number (passed 0) [] begin bad_edition 1 edition_max x (omega arith) in
      let two = stood-number _ (x ∷ []) one bad_id 1 id_max d (omega arith) in
      let three = stood-number _ (x ∷ d ∷ []) two bad_period 1 period_max p (omega arith) in
      stood-number _ (x ∷ d ∷ p ∷ []) three bad_count 1 count_max (length X) (omega arith)
    where
      begin : Stood (passed 0) []
      begin place e = let none : place ≡ 0 = cc in none

  stood-nodes : length X ≤ count_max → (i : ℕ) → i ≤ length X → Stood (nodes_tried (least_execution x) X P (head_tried x d p (length X)) i) (numbers_to (table_of X P x d p) i)
  unfolding numbers_to
  stood-nodes c = along-nodes (λ i r. Stood r (numbers_to (table_of X P x d p) i)) stood-head λ i r l s.
      rw (add-one i) (stood-node r (numbers_to (table_of X P x d p) i) s (least_execution x) (length X) (at (filled X) i) (at (filled P) i) c)

  -- the ranges: those of a node, of all nodes, and of the table
  pub Fine : ℕ → Type 0
  Fine v = (least_execution x ≤ at X v) × (at X v ≤ execution_max) × (size (at P v) ≤ size_to (length X) (at P v))

  pub record NodesFine (i : ℕ) : Type 0 where
    pub place : ℕ
    pub head : head_tried x d p (length X) ≡ Ok place
    pub nodes : (v : ℕ) → v < i → Fine v

  nodes-fine : (i next : ℕ) → nodes_tried (least_execution x) X P (head_tried x d p (length X)) i ≡ Ok next → NodesFine i
  unfolding nodes_tried Fine
  nodes-fine zero next e = record { place = next; head = e; nodes = λ v l. absurd (not-suc-le-zero l) }
  nodes-fine (suc i) next e =
      let c = parents-passed (length X) (at P i) _ next e in
      let b = tried-passed bad_parent 0 (length X) (size (at P i)) _ c.place c.came in
      let a = tried-passed bad_execution (least_execution x) execution_max (at X i) _ b.place b.came in
      let rest = nodes-fine i a.place a.came in
      record { place = rest.place; head = rest.head; nodes = rw (add-one i) at (below_more Fine i rest.nodes (a.least, a.most, c.all)) }

  module _ (next : ℕ) (e : record_tried X P x d p ≡ Ok next) where
    pub fine : NodesFine (length X)
    fine = nodes-fine (length X) next e

    pub trial-head : HeadPassed x d p (length X) fine.place
    trial-head = head_passed x d p (length X) fine.place fine.head

    pub trial-place : next ≡ length (record_of (table_of X P x d p))
    trial-place = stood-nodes trial-head.count.1 (length X) (omega arith) next e

    -- past a list's end stands 0
    past : (l : List ℕ) (v : ℕ) → length l ≤ v → at (filled l) v ≡ 0
    past l v h = at-filled l v ∙ get_or-eq_default l 0 h

    pub trial-executions : (v : ℕ) → at X v ≤ execution_max
    unfolding Fine
    trial-executions v = ⊎_elim
        (λ (l : v < length X). (fine.nodes v l).1)
        (λ (l : length X ≤ v). rw (get_or-eq_default X 0 l) zero-le)
        (lt-or-ge v (length X))

    -- where each parent set is a word, and some node runs
    pub trial-range : length X ≡ length P → ((v : ℕ) → at P v < 2 ^ count_max) → all_zero X (length X) ≡ false → InRange (table_of X P x d p) × Full (table_of X P x d p)
    unfolding Fine
    trial-range same words runs = (
      record {
        edition-low = trial-head.edition.0;
        edition-high = trial-head.edition.1;
        id-low = trial-head.id.0;
        id-high = trial-head.id.1;
        period-low = trial-head.period.0;
        period-high = trial-head.period.1;
        count_low = trial-head.count.0;
        count-high = trial-head.count.1;
        execution-low = λ v l. rw (at-filled X v) (fine.nodes v l).0;
        execution-high = λ v. rw (at-filled X v) (trial-executions v);
        execution-past = past X;
        some_runs = let some = some_runs X (length X) runs in (some.0, some.1, rw (at-filled X some.0) some.2);
        parents-below = λ v. rw (at-filled P v) (⊎_elim
            (λ (l : v < length X). word_below (length X) (at P v) (words v) (fine.nodes v l).2)
            (λ (l : length X ≤ v). let none : at P v ≡ 0 = get_or-eq_default P 0 {n = v} (rw (← same) l) in rw none (pow_pos (length X)))
            (lt-or-ge v (length X)));
        parents-past = λ v l. past P v (rw (← same) l);
      },
      (filled-length X trial-head.count.1, filled-length P (rw (← same) trial-head.count.1)),
    )

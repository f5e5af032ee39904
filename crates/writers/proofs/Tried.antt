-- The trial of a record's numbers comes to what the rules say: a number is tried as a reader would try it, at the place that its shortest form gives the
-- next; and where a node's parents are not all nodes, the first that is none stands behind those that are.
use Prim.Native.Nat.{ℕ, suc, ◌+◌, ◌^◌, ◌≤◌, ◌<◌}
use mathlib.Core.Path.{◌≡◌, refl, sym, ap, ap₂, ◌∙◌}
use mathlib.Core.Logic.{◌⊎◌, inr, ⊎_elim}
use mathlib.Core.Bool.{Bool, true, false, ◌&&◌, and-false}
use mathlib.Core.List.{List, [], ◌∷◌, ◌++◌, append_assoc, append-nil}
use native.Mathlib.Nat.{add-zero}
use native.Mathlib.Numerals.{add-one}
use native.Mathlib.Omega.{arith}
use lib.ListN.{length, length-append}
use lib.Dec.{leb, ltb}
use borrow.Author.Tests.{le-leb, lt-leb, leb-true, lt-ltb, ltb-true, ltb-false}
use Rattle.std.specs.Prelude.{Result, Ok, Err, ⊤}
use Rattle.plain.specs.Pick.{pick}
use Rattle.plain.specs.At.{at}
use Rattle.refusals.specs.Numbers.{bad_parent, bad_execution}
use Rattle.refusals.specs.declared.Refusal.{Refusal}
use Rattle.refusals.specs.Refusal.{refusal}
use Rattle.sets.specs.Members.{members}
use Rattle.sets.specs.Size.{size_to, size}
use Rattle.sets.specs.Rule.{set_of}
use Rattle.sets.proofs.Sizes.{length-members}
use Rattle.sets.proofs.Below.{size-grows, all-below, From, members-from}
use Rattle.sets.proofs.Below.From.{none, some}
use Rattle.tables.specs.declared.TaskTable.{TaskTable}
use Rattle.tables.specs.Limits.{count_max, execution_max, least_execution}
use Rattle.numbers.specs.Number.{record_more}
use Rattle.numbers.specs.Shortest.{shortest}
use Rattle.numbers.specs.Inner.Word.{word_more}
use Rattle.numbers.proofs.Shortest.{shortest-fewer}
use Rattle.records.specs.Nodes.{with_node}
use Rattle.records.specs.Reading.{headed}
use Rattle.records.specs.Expected.{Due, range, Next, node_from, parent_from, after}
use Rattle.records.specs.Expected.Due.{edition, id, period, count, execution, parent_count, parent}
use Rattle.records.specs.Expected.Next.{number}
use Rattle.writers.specs.Record.{node_numbers, numbers_to}
use Rattle.writers.specs.Ranges.{ranges_from}
use Rattle.writers.specs.Writing.{outcome_of}
use Rattle.writers.specs.Inner.Trial.{Trial, passed, stopped, tried, parents_tried, node_tried, head_tried}
use Rattle.writers.proofs.Along.{digits, along-members}

-- a number out of its range, and in it
module _ (due : Due) (v : ℕ) (vs : List ℕ) (place : ℕ) where
  pub ranges-out : (v < (range due).low) ⊎ ((range due).high < v) → ranges_from (v ∷ vs) (number due) place ≡ Err (refusal (range due).broken place)
  unfolding ranges_from
  ranges-out h = ⊎_elim (λ l. simp (lt-leb (range due).low v l)) (λ g. simp (lt-leb v (range due).high g, and-false)) h

  pub ranges_in : (range due).low ≤ v → v ≤ (range due).high → ranges_from (v ∷ vs) (number due) place ≡ ranges_from vs (after due v) (place + length (shortest record_more v))
  unfolding ranges_from
  ranges_in l g = simp (le-leb (range due).low v l, le-leb v (range due).high g)

-- a trial that refuses nothing came to a place
pub came : (r : Trial) → outcome_of r ≡ Ok tt → (next : ℕ) × (r ≡ Ok next)
came (Ok place) e = (place, refl)
came (Err x) e = cc

-- what the numbers from a trial on come to, where a reader expects `next`
pub go_on : Trial → (next : Next) → List ℕ → Result ⊤ Refusal
go_on (Ok place) next vs = ranges_from vs next place
go_on (Err x) next vs = Err x

-- at the end of the numbers; and where the trial stopped, whatever is left
pub at-end : (next : Next) (r : Trial) → go_on r next [] ≡ outcome_of r
unfolding go_on ranges_from
at-end next (Ok place) = refl
at-end next (Err x) = refl

pub at-stop : (next : Next) (r : Trial) (vs : List ℕ) (x : Refusal) → r ≡ Err x → go_on r next vs ≡ Err x
unfolding go_on
at-stop next r vs x e = rw e

-- after a number is tried, the others
module _ (due : Due) (v : ℕ) (vs : List ℕ) (h : (range due).high < 128 ^ suc record_more) where
  pub number-tried : (r : Trial) → go_on r (number due) (v ∷ vs) ≡ go_on (tried (range due).broken (range due).low (range due).high v r) (after due v) vs
  unfolding go_on tried ranges_from
  number-tried (Err x) = refl
  number-tried (Ok p) = by (leb (range due).low v) (leb v (range due).high) refl
    where
      by : (a b : Bool) → leb v (range due).high ≡ b →
          pick (a && b) (ranges_from vs (after due v) (p + length (shortest record_more v))) (Err (refusal (range due).broken p))
          ≡ go_on (pick (a && b) (passed (p + length (shortest word_more v))) (stopped (range due).broken p)) (after due v) vs
      by true true e =
          ap (λ (w : List ℕ). ranges_from vs (after due v) (p + length w)) (sym (shortest-fewer record_more word_more v (omega (arith, leb-true v (range due).high e)) (omega arith)))
      by true false e = refl
      by false b e = refl

-- after a node's parents are tried, the others
module _ (T : TaskTable) (i e w : ℕ) (ws : List ℕ) (o : 1 ≤ T.count) (c : T.count ≤ count_max) where
  after-parents : Next
  after-parents = node_from (with_node T i e (set_of count_max (digits w))) (i + 1)

  -- all are nodes
  parents-fine : (p : ℕ) → size w ≤ size_to T.count w →
      ranges_from (members count_max w ++ ws) (parent_from T i e (length (members count_max w)) 0 0) p ≡ ranges_from ws after-parents (p + size_to T.count w)
  unfolding after-parents
  parents-fine p h =
      let all : size w ≡ size_to T.count w = omega (arith, h, size-grows T.count count_max w c) in
      let x = along-members (λ next place vs. ranges_from vs next place ≡ ranges_from ws (node_from (with_node T i e (set_of count_max (digits w))) (i + 1)) (p + length (members count_max w)))
      (λ due v place vs l g k. ranges_in due v vs place l g ∙ k) T i e w count_max 0 p ws (omega arith) (all-below T.count count_max w h) (λ low l. refl) in
      rw (← all, ← (length-members count_max w)) (rw (add-zero (length (members count_max w))) at x)

  -- one is none
  parents-broken : (p : ℕ) → size_to T.count w < size w →
      ranges_from (members count_max w ++ ws) (parent_from T i e (length (members count_max w)) 0 0) p ≡ Err (refusal bad_parent (p + size_to T.count w))
  parents-broken p h = by (members-from T.count count_max w c)
    where
      by : (rest : List ℕ) × (members count_max w ≡ members T.count w ++ rest) × From T.count rest →
          ranges_from (members count_max w ++ ws) (parent_from T i e (length (members count_max w)) 0 0) p ≡ Err (refusal bad_parent (p + size_to T.count w))
      by (rest, q, none) = absurd (omega (arith, h, ap (length {A = ℕ}) (q ∙ append-nil (members T.count w)), length-members count_max w, length-members T.count w))
      by (rest, q, some {q = v} {qs = vs} b) =
          let x = along-members (λ next place us. ranges_from us next place ≡ Err (refusal bad_parent (p + length (members T.count w))))
          (λ due u place us l g k. ranges_in due u us place l g ∙ k) T i e w T.count (suc (length vs)) p (v ∷ vs ++ ws) c (λ k l m. l)
          (λ low l. ranges-out (parent T i e (length vs) low (set_of T.count (digits w))) v (vs ++ ws) _ (inr (omega arith))) in
          let many : length (members count_max w) ≡ length (members T.count w) + suc (length vs) = ap (length {A = ℕ}) q ∙ length-append (members T.count w) (v ∷ vs) in
          rw (← (length-members T.count w), many, q, append_assoc (members T.count w) (v ∷ vs) ws) x

  parents-at : (r : Trial) → go_on r (parent_from T i e (length (members count_max w)) 0 0) (members count_max w ++ ws) ≡ go_on (parents_tried T.count w r) after-parents ws
  unfolding go_on parents_tried
  parents-at (Err x) = refl
  parents-at (Ok p) = by (ltb (size_to T.count w) (size w)) refl
    where
      by : (t : Bool) → ltb (size_to T.count w) (size w) ≡ t →
          ranges_from (members count_max w ++ ws) (parent_from T i e (length (members count_max w)) 0 0) p
          ≡ go_on (pick t (stopped bad_parent (p + size_to T.count w)) (passed (p + size_to T.count w))) after-parents ws
      by true q = parents-broken p (ltb-true _ _ q)
      by false q = parents-fine p (ltb-false _ _ q)

  -- a node's numbers
  node-tried : (r : Trial) → go_on r (number (execution T i)) (node_numbers e w ++ ws) ≡ go_on (node_tried (least_execution T.edition) T.count e w r) after-parents ws
  node-tried r =
      let first = tried bad_execution (least_execution T.edition) execution_max e r in
      number-tried (execution T i) e _ (omega arith) r ∙ number-tried (parent_count T i e) (length (members count_max w)) _ (omega arith) first
      ∙ parents-at (tried bad_parent 0 T.count (length (members count_max w)) first)
      ∙ ap (λ (k : ℕ). go_on (parents_tried T.count w (tried bad_parent 0 T.count k first)) after-parents ws) (length-members count_max w)

-- the numbers of a table's nodes: those of the nodes before node i are tried, and then the others, where a reader has read a table of this edition and count
pub record Reached (t : TaskTable) (i : ℕ) (r : Trial) : Type 0 where
  pub so_far : TaskTable
  pub edition-same : so_far.edition ≡ t.edition
  pub count_same : so_far.count ≡ t.count
  pub goes : (ws : List ℕ) → ranges_from (numbers_to t i ++ ws) (number edition) 0 ≡ go_on r (node_from so_far i) ws

module _ (t : TaskTable) where
  pub head-reached : Reached t 0 (head_tried t.edition t.id t.period t.count)
  unfolding numbers_to go_on
  head-reached = record {
    so_far = headed t.edition t.id t.period t.count;
    edition-same = refl;
    count_same = refl;
    goes = λ ws.
        number-tried edition t.edition _ (omega arith) (passed 0)
        ∙ number-tried (id t.edition) t.id _ (omega arith) _
        ∙ number-tried (period t.edition t.id) t.period _ (omega arith) _
        ∙ number-tried (count t.edition t.id t.period) t.count ws (omega arith) _;
  }

  pub node-reached : (i : ℕ) (r : Trial) → i < t.count → t.count ≤ count_max → Reached t i r →
      Reached t (i + 1) (node_tried (least_execution t.edition) t.count (at t.execution i) (at t.parents i) r)
  unfolding numbers_to after-parents
  node-reached i r l c x =
      let e = at t.execution i in
      let w = at t.parents i in
      let S = x.so_far in
      record {
        so_far = with_node S i e (set_of count_max (digits w));
        edition-same = x.edition-same;
        count_same = x.count_same;
        goes = λ ws.
            let here : node_from S i ≡ number (execution S i) = simp (lt-ltb i S.count (rw x.count_same l)) in
            ap (λ (vs : List ℕ). ranges_from (vs ++ ws) (number edition) 0) (ap (numbers_to t) (add-one i))
            ∙ ap (λ (vs : List ℕ). ranges_from vs (number edition) 0) (append_assoc (numbers_to t i) (node_numbers e w) ws)
            ∙ x.goes (node_numbers e w ++ ws)
            ∙ ap (λ (y : Next). go_on r y (node_numbers e w ++ ws)) here
            ∙ node-tried S i e w ws (rw x.count_same (omega arith)) (rw x.count_same c) r
            ∙ ap₂ (λ (k n : ℕ). go_on (node_tried (least_execution k) n e w r) (node_from (with_node S i e (set_of count_max (digits w))) (i + 1)) ws) x.edition-same x.count_same;
      }

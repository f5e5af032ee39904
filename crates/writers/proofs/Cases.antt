-- The steps of a trial case by case: each test that the code makes picks one clause; no step goes far; and a trial that stopped stays.
use Prim.Native.Nat.{ℕ, zero, suc, ◌+◌, ◌-◌, ◌≤◌, ◌<◌}
use mathlib.Core.Path.{◌≡◌, refl, sym, ap, ◌∙◌}
use mathlib.Core.Logic.{◌⊎◌, ⊎_elim}
use mathlib.Core.Bool.{Bool, true, false, ◌&&◌, and-false}
use mathlib.Core.List.{List}
use native.Mathlib.Numerals.{add-one}
use native.Mathlib.Omega.{arith}
use lib.ListN.{length}
use lib.Dec.{leb, ltb}
use borrow.Author.Tests.{le-leb, lt-leb, le-ltb, lt-ltb, leb-true, ltb-false}
use Rattle.std.specs.Prelude.{Ok, Err}
use Rattle.plain.specs.Pick.{pick}
use Rattle.plain.specs.At.{at}
use Rattle.refusals.specs.Numbers.{bad_edition, bad_id, bad_period, bad_count, bad_execution, bad_parent}
use Rattle.refusals.specs.declared.Refusal.{Refusal}
use Rattle.tables.specs.Limits.{edition_max, id_max, period_max, count_max, execution_max}
use Rattle.sets.specs.Size.{size_to, size}
use Rattle.sets.proofs.Sizes.{size-full}
use Rattle.numbers.specs.Shortest.{shortest}
use Rattle.numbers.specs.Inner.Word.{word_more}
use Rattle.numbers.proofs.Shortest.{shortest-length}
use Rattle.writers.specs.Inner.Trial.{node_max, Trial, passed, stopped, tried, parents_tried, node_tried, nodes_tried, head_tried}

-- where a trial is: the place that it came to, or the one at which it stopped
abbrev pub reached : Trial → ℕ
reached (Ok place) = place
reached (Err x) = x.place

-- a number in its range moved the trial on by its shortest form
pub record InRange (low high v : ℕ) (r : Trial) (next : ℕ) : Type 0 where
  pub place : ℕ
  pub came : r ≡ Ok place
  pub least : low ≤ v
  pub most : v ≤ high
  pub next-is : next ≡ place + length (shortest word_more v)

-- a number after a trial that stopped; one out of its range, and in it; and how far it goes
module _ (broken low high v : ℕ) where
  pub tried-stays : (x : Refusal) → tried broken low high v (Err x) ≡ Err x
  unfolding tried
  tried-stays x = refl

  pub tried-out : (place : ℕ) → (v < low) ⊎ (high < v) → tried broken low high v (Ok place) ≡ stopped broken place
  unfolding tried
  tried-out place h = ⊎_elim (λ l. simp (lt-leb low v l)) (λ g. simp (lt-leb v high g, and-false)) h

  pub tried-in : (place : ℕ) → low ≤ v → v ≤ high → tried broken low high v (Ok place) ≡ passed (place + length (shortest word_more v))
  unfolding tried
  tried-in place l g = simp (le-leb low v l, le-leb v high g)

  pub tried-passed : (r : Trial) (next : ℕ) → tried broken low high v r ≡ Ok next → InRange low high v r next
  unfolding tried
  tried-passed (Err x) next h = cc
  tried-passed (Ok place) next h = by (leb low v) (leb v high) refl refl h
    where
      by : (a b : Bool) → leb low v ≡ a → leb v high ≡ b
          → pick (a && b) (passed (place + length (shortest word_more v))) (stopped broken place) ≡ Ok next → InRange low high v (Ok place) next
      by true true p q h = record { place = place; came = refl; least = leb-true low v p; most = leb-true v high q; next-is = cc }
      by true false p q h = cc
      by false true p q h = cc
      by false false p q h = cc

  pub tried-near : (r : Trial) → reached (tried broken low high v r) ≤ reached r + suc word_more
  unfolding tried
  tried-near (Err x) = omega arith
  tried-near (Ok place) = by (leb low v && leb v high)
    where
      by : (t : Bool) → reached (pick t (passed (place + length (shortest word_more v))) (stopped broken place)) ≤ place + suc word_more
      by true = omega (arith, shortest-length word_more v)
      by false = omega arith

  pub tried-next : (place next : ℕ) → Ok next ≡ tried broken low high v (Ok place) → next ≤ place + suc word_more
  tried-next place next h = rw (← h) at (tried-near (Ok place))

-- the same of a node's parents: not all are nodes, and all are
pub record AllNodes (n set : ℕ) (r : Trial) (next : ℕ) : Type 0 where
  pub place : ℕ
  pub came : r ≡ Ok place
  pub all : size set ≤ size_to n set
  pub next-is : next ≡ place + size_to n set

module _ (n set : ℕ) where
  pub parents-stay : (x : Refusal) → parents_tried n set (Err x) ≡ Err x
  unfolding parents_tried
  parents-stay x = refl

  pub parents-out : (place : ℕ) → size_to n set < size set → parents_tried n set (Ok place) ≡ stopped bad_parent (place + size_to n set)
  unfolding parents_tried
  parents-out place h = simp (lt-ltb _ _ h)

  pub parents-in : (place : ℕ) → size set ≤ size_to n set → parents_tried n set (Ok place) ≡ passed (place + size_to n set)
  unfolding parents_tried
  parents-in place h = simp (le-ltb _ _ h)

  pub parents-passed : (r : Trial) (next : ℕ) → parents_tried n set r ≡ Ok next → AllNodes n set r next
  unfolding parents_tried
  parents-passed (Err x) next h = cc
  parents-passed (Ok place) next h = by (ltb (size_to n set) (size set)) refl h
    where
      by : (t : Bool) → ltb (size_to n set) (size set) ≡ t
          → pick t (stopped bad_parent (place + size_to n set)) (passed (place + size_to n set)) ≡ Ok next → AllNodes n set (Ok place) next
      by true p h = cc
      by false p h = record { place = place; came = refl; all = ltb-false _ _ p; next-is = cc }

  pub parents-near : (r : Trial) → reached (parents_tried n set r) ≤ reached r + n
  unfolding parents_tried
  parents-near (Err x) = omega arith
  parents-near (Ok place) = by (ltb (size_to n set) (size set))
    where
      by : (t : Bool) → reached (pick t (stopped bad_parent (place + size_to n set)) (passed (place + size_to n set))) ≤ place + n
      by true = omega (arith, size-full n set)
      by false = omega (arith, size-full n set)

-- a node goes no further than `node_max`, and stays where it follows a refusal
module _ (least n e set : ℕ) where
  pub node-near : (r : Trial) → n ≤ count_max → reached (node_tried least n e set r) ≤ reached r + node_max
  node-near r h =
      let first = tried bad_execution least execution_max e r in
      let second = tried bad_parent 0 n (size set) first in
      omega (arith, tried-near bad_execution least execution_max e r, tried-near bad_parent 0 n (size set) first, parents-near n set second)

  pub node-next : (place next : ℕ) → n ≤ count_max → Ok next ≡ node_tried least n e set (Ok place) → next ≤ place + node_max
  node-next place next h q = rw (← q) at (node-near (Ok place) h)

  pub node-stays : (x : Refusal) → node_tried least n e set (Err x) ≡ Err x
  unfolding tried parents_tried
  node-stays x = refl

-- nodes after a trial that came to a place; one more; and the first refusal stays
module _ (least : ℕ) (X P : List ℕ) where
  pub nodes-none : (head : Trial) → head ≡ nodes_tried least X P head 0
  unfolding nodes_tried
  nodes-none head = refl

  pub nodes-more : (head : Trial) (i : ℕ) {r : Trial} → r ≡ nodes_tried least X P head i → node_tried least (length X) (at X i) (at P i) r ≡ nodes_tried least X P head (i + 1)
  unfolding nodes_tried
  nodes-more head i e = rw (add-one i) (ap (node_tried least (length X) (at X i) (at P i)) e)

  nodes-on : (head : Trial) (i k : ℕ) (x : Refusal) → nodes_tried least X P head i ≡ Err x → nodes_tried least X P head (k + i) ≡ Err x
  unfolding nodes_tried
  nodes-on head i zero x e = let q : zero + i ≡ i = omega arith in rw q e
  nodes-on head i (suc k) x e =
      let q : suc k + i ≡ suc (k + i) = omega arith in
      let o = nodes-on head i k x e in
      rw (q, nodes_tried) (ap (node_tried least (length X) (at X (k + i)) (at P (k + i))) o ∙ node-stays _ _ _ _ x)

  pub nodes-stay : (head : Trial) (i n : ℕ) (x : Refusal) → i ≤ n → nodes_tried least X P head i ≡ Err x → nodes_tried least X P head n ≡ Err x
  nodes-stay head i n x l e = let q : (n - i) + i ≡ n = omega arith in rw q at (nodes-on head i (n - i) x e)

-- where the head came through, its numbers are in range, and it went no further than `node_max`
pub record HeadPassed (x d p n next : ℕ) : Type 0 where
  pub edition : (1 ≤ x) × (x ≤ edition_max)
  pub id : (1 ≤ d) × (d ≤ id_max)
  pub period : (1 ≤ p) × (p ≤ period_max)
  pub count : (1 ≤ n) × (n ≤ count_max)
  pub near : next ≤ node_max

pub head_passed : (x d p n next : ℕ) → head_tried x d p n ≡ Ok next → HeadPassed x d p n next
head_passed x d p n next h =
    let c = tried-passed bad_count 1 count_max n _ next h in
    let b = tried-passed bad_period 1 period_max p _ c.place c.came in
    let a = tried-passed bad_id 1 id_max d _ b.place b.came in
    let e = tried-passed bad_edition 1 edition_max x (passed 0) a.place a.came in
    let none : e.place ≡ 0 = cc in
    record {
      edition = (e.least, e.most);
      id = (a.least, a.most);
      period = (b.least, b.most);
      count = (c.least, c.most);
      near =
          omega (arith, a.next-is, b.next-is, c.next-is, e.next-is, shortest-length word_more x, shortest-length word_more d, shortest-length word_more p, shortest-length word_more n);
    }

-- no head goes further, one that is refused neither
pub head_near : (x d p n : ℕ) → reached (head_tried x d p n) ≤ node_max
head_near x d p n =
    let first = tried bad_edition 1 edition_max x (passed 0) in
    let second = tried bad_id 1 id_max d first in
    let third = tried bad_period 1 period_max p second in
    omega (arith, tried-near bad_edition 1 edition_max x (passed 0), tried-near bad_id 1 id_max d first, tried-near bad_period 1 period_max p second, tried-near bad_count 1 count_max n third)

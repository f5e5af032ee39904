-- A sound board by its test: the test goes through the rows and asks of each what the statement says of it, so the one holds just where the
-- other does.
use mathlib.Core.Path.{◌≡◌, refl, sym, subst, ◌∙◌}
use mathlib.Core.Logic.{◌⊎◌, inl, inr, ⊎_elim}
use mathlib.Core.Bool.{Bool, true, false, not}
use mathlib.Core.List.{List}
use Prim.Native.Nat.{ℕ, ◌*◌, ◌%◌, ◌^◌, ◌≤◌, ◌<◌, zero-le}
use native.Mathlib.Nat.{le_trans, mul-le-mul}
use native.Mathlib.Omega.{arith}
use lib.Dec.{eqb, leb}
use lib.ListN.{length, replicate, take}
use Rattle.std.specs.List.{list_all, sum_by}
use Rattle.plain.specs.At.{at}
use Rattle.boards.proofs.Walks.{all-part, sum-walked}
use borrow.Author.Tests.{eqb-true, eqb-false, eq-eqb, ne_eqb, leb-true, le-leb}
use Rattle.plain.specs.Pick.{pick}
use Rattle.plain.proofs.Sums.{sum_mono, sum_to-le, max_to-le}
use Rattle.tables.specs.Limits.{id_max, period_max, count_max, run_max, over_max, density_max}
use Rattle.sets.specs.Member.{Member}
use Rattle.boards.specs.declared.Row.{Row}
use Rattle.boards.specs.Row.{free_row, rows_max, row_at}
use Rattle.plain.specs.Tests.{between, all_to}
use Rattle.boards.specs.Sound.{Standing, Sound, is_bare, is_untimed, is_free, is_dense, is_timed, is_standing, is_sound_row, is_new, is_sound}
use Rattle.boards.specs.Verdict.{sum_of, largest_of}
use Rattle.plain.proofs.Picks.{true-false, pick-case}
use Rattle.plain.proofs.Tests.{both_true, true-both, between-true, true-between, all_to-true, true-all_to, all_to-same}
use Rattle.boards.proofs.Figures.{max-le-sum}

-- a free row
pub free-test : (r : Row) → is_free r ≡ true → r ≡ free_row
free-test r e =
    let w = both_true (is_bare r) (is_untimed r) e in
    let a = both_true (eqb r.id 0) _ w.0 in
    let b = both_true (eqb r.nodes 0) _ a.1 in
    let c = both_true (eqb r.sum 0) (eqb r.largest 0) b.1 in
    let d = both_true (eqb r.longest 0) _ w.1 in
    let f = both_true (eqb r.shortest 0) (eqb r.over 0) d.1 in
    same (eqb-true r.id 0 a.0) (eqb-true r.nodes 0 b.0) (eqb-true r.sum 0 c.0) (eqb-true r.largest 0 c.1)
    (eqb-true r.longest 0 d.0) (eqb-true r.shortest 0 f.0) (eqb-true r.over 0 f.1)
  where
    same : r.id ≡ 0 → r.nodes ≡ 0 → r.sum ≡ 0 → r.largest ≡ 0 → r.longest ≡ 0 → r.shortest ≡ 0 → r.over ≡ 0 → r ≡ free_row
    same p q s t u v w = λ i. record { id = p i; nodes = q i; sum = s i; largest = t i; longest = u i; shortest = v i; over = w i }

-- a standing row
pub standing-test : (r : Row) → is_standing r ≡ true → Standing r
standing-test r e =
    let w = both_true (is_dense r) (is_timed r) e in
    let a = both_true (between 1 r.id id_max) _ w.0 in
    let b = both_true (between 1 r.nodes count_max) _ a.1 in
    let c = both_true (between 1 r.largest density_max) (between r.largest r.sum (r.nodes * r.largest)) b.1 in
    let d = both_true (between 1 r.longest run_max) _ w.1 in
    let f = both_true (between 1 r.over over_max) _ d.1 in
    let g = both_true (leb r.shortest (period_max * r.over)) (leb r.over (2 * r.shortest)) f.1 in
    let i = between-true 1 r.id id_max a.0 in
    let n = between-true 1 r.nodes count_max b.0 in
    let l = between-true 1 r.largest density_max c.0 in
    let s = between-true r.largest r.sum (r.nodes * r.largest) c.1 in
    let x = between-true 1 r.longest run_max d.0 in
    let q = between-true 1 r.over over_max f.0 in
    record {
      id-low = i.0;
      id-high = i.1;
      nodes-low = n.0;
      nodes-high = n.1;
      largest-low = l.0;
      largest-high = l.1;
      sum_low = s.0;
      sum-high = s.1;
      longest-low = x.0;
      longest-high = x.1;
      over-low = q.0;
      over-high = q.1;
      over-half = leb-true r.over (2 * r.shortest) g.1;
      shortest-high = leb-true r.shortest (period_max * r.over) g.0;
    }

pub test-standing : {r : Row} → Standing r → is_standing r ≡ true
test-standing {r} s =
    true-both
    (true-both (true-between 1 r.id id_max s.id-low s.id-high)
    (true-both (true-between 1 r.nodes count_max s.nodes-low s.nodes-high)
    (true-both (true-between 1 r.largest density_max s.largest-low s.largest-high)
    (true-between r.largest r.sum (r.nodes * r.largest) s.sum_low s.sum-high))))
    (true-both (true-between 1 r.longest run_max s.longest-low s.longest-high)
    (true-both (true-between 1 r.over over_max s.over-low s.over-high)
    (true-both (le-leb r.shortest (period_max * r.over) s.shortest-high) (le-leb r.over (2 * r.shortest) s.over-half))))

-- each is free or has the ranges
pub row-test : (r : Row) → is_sound_row r ≡ true → (r ≡ free_row) ⊎ Standing r
unfolding is_sound_row
row-test r e = pick-case (λ t. t ≡ true → (r ≡ free_row) ⊎ Standing r) (is_free r) (λ q h. inl (free-test r q)) (λ q h. inr (standing-test r h)) e

pub test-row : (r : Row) → (r ≡ free_row) ⊎ Standing r → is_sound_row r ≡ true
unfolding is_sound_row
test-row r (inl e) = rw e
test-row r (inr s) = pick-case (λ t. t ≡ true) (is_free r) (λ q. refl) (λ q. test-standing s)

-- no id twice: where id i is id k, it is 0
abbrev New : (ℕ → ℕ) → ℕ → Type 0
New ids k = (i : ℕ) → i < k → ids i ≡ ids k → ids i ≡ 0

new-test : (ids : ℕ → ℕ) (k : ℕ) → is_new ids k ≡ true → New ids k
unfolding is_new
new-test ids k e i h q =
    pick-case (λ t. t ≡ true → ids i ≡ 0) (eqb (ids k) 0)
    (λ z t. q ∙ eqb-true (ids k) 0 z)
    (λ z t. absurd (true-false (all_to-true k _ t i h) (rw (eq-eqb (ids i) (ids k) q)))) e

test-new : (ids : ℕ → ℕ) (k : ℕ) → New ids k → is_new ids k ≡ true
unfolding is_new
test-new ids k f =
    pick-case (λ t. t ≡ true) (eqb (ids k) 0) (λ z. refl)
    (λ z. true-all_to k _ (λ i h. rw (ne_eqb (ids i) (ids k) (λ q. eqb-false (ids k) 0 z (sym q ∙ f i h q)))))

-- ids that are the same so far tell the same
pub new-same : (ids others : ℕ → ℕ) (k : ℕ) → ((i : ℕ) → i ≤ k → ids i ≡ others i) → is_new ids k ≡ is_new others k
unfolding is_new
new-same ids others k e = rw (e k (omega arith), all_to-same k (λ i. pick (eqb (ids i) (others k)) false true) (λ i. pick (eqb (others i) (others k)) false true) (λ i l. rw (e i (omega arith))))

-- as a walk over the ids before tells it
pub others-new : (ids : List ℕ) (k : ℕ) → k ≤ length ids → list_all (λ x. not (eqb x (at ids k))) (take k ids) ≡ all_to k (λ i. pick (eqb (at ids i) (at ids k)) false true)
others-new ids k h = all-part ids 0 (λ x. not (eqb x (at ids k))) k h ∙ all_to-same k _ _ (λ i l. other (eqb (at ids i) (at ids k)))
  where
    other : (b : Bool) → not b ≡ pick b false true
    other true = refl
    other false = refl

-- an id is new that has a remainder which no earlier one has
pub new_apart : (ids : ℕ → ℕ) (k s : ℕ) → ((i : ℕ) → i < k → Member (ids i % 64) s) → (Member (ids k % 64) s → ⊥) → is_new ids k ≡ true
new_apart ids k s has n = test-new ids k (λ i h q. absurd (n (subst (λ (x : ℕ). Member (x % 64) s) q (has i h))))

-- the ids of the rows
abbrev pub ids_of : List Row → ℕ → ℕ
ids_of rows k = (row_at rows k).id

-- the whole test
pub sound-test : (rows : List Row) → is_sound rows ≡ true → Sound rows
unfolding is_sound
sound-test rows e =
    let w = both_true (eqb (length rows) rows_max) _ e in
    let at : (k : ℕ) → k < rows_max → (is_sound_row (row_at rows k) ≡ true) × (is_new (ids_of rows) k ≡ true) = λ k h. both_true (is_sound_row (row_at rows k)) (is_new (ids_of rows) k) (all_to-true rows_max _ w.1 k h) in
    record {
      sixteen = eqb-true (length rows) rows_max w.0;
      each = λ k h. row-test (row_at rows k) (at k h).0;
      once = λ i j l h q. new-test (ids_of rows) j (at j h).1 i l q;
    }

pub test-sound : {rows : List Row} → Sound rows → is_sound rows ≡ true
unfolding is_sound
test-sound {rows} s =
    true-both (eq-eqb (length rows) rows_max s.sixteen) (true-all_to rows_max _ (λ k h. true-both (test-row (row_at rows k) (s.each k h)) (test-new (ids_of rows) k (λ i l q. s.once i k l h q))))

module _ {rows : List Row} (s : Sound rows) where
  -- what a free row has and every standing one, each row of a sound board has
  pub each_row : (P : Row → Type 0) → P free_row → ((r : Row) → Standing r → P r) → (k : ℕ) → k < rows_max → P (row_at rows k)
  each_row P free standing k h = ⊎_elim (λ (e : row_at rows k ≡ free_row). rw e free) (λ (t : Standing (row_at rows k)). standing (row_at rows k) t) (s.each k h)

  -- so no figure is greater than the ranges allow
  pub row-sum-le : (k : ℕ) → k < rows_max → (row_at rows k).sum ≤ count_max * density_max
  row-sum-le = each_row (λ r. r.sum ≤ count_max * density_max) zero-le (λ r t. le_trans t.sum-high (mul-le-mul t.nodes-high t.largest-high))

  pub row-largest-le : (k : ℕ) → k < rows_max → (row_at rows k).largest ≤ density_max
  row-largest-le = each_row (λ r. r.largest ≤ density_max) zero-le (λ r t. t.largest-high)

  pub sum_of-le : sum_of rows ≤ rows_max * (count_max * density_max)
  unfolding sum_of
  sum_of-le = sum_to-le rows_max (count_max * density_max) _ row-sum-le

  -- nor is the sum too great for a word
  pub sums-fit : sum_by (λ (r : Row). r.sum) rows < 2 ^ 64
  unfolding sum_of
  sums-fit = omega (arith, sum-walked rows free_row (λ (r : Row). r.sum) rows_max s.sixteen, sum_of-le)

  pub largest_of-le : largest_of rows ≤ density_max
  unfolding largest_of
  largest_of-le = max_to-le rows_max density_max _ row-largest-le

  -- and S is at least M, because each row's sum is at least its largest
  pub largest-le-sum : largest_of rows ≤ sum_of rows
  unfolding sum_of largest_of
  largest-le-sum =
      le_trans (max-le-sum rows_max (λ k. (row_at rows k).largest))
      (sum_mono rows_max _ (λ k. (row_at rows k).sum) (each_row (λ r. r.largest ≤ r.sum) zero-le (λ r t. t.sum_low)))

-- the empty board is sound
pub empty-sound : Sound (replicate rows_max free_row)
unfolding is_sound is_sound_row is_new all_to
empty-sound = sound-test (replicate rows_max free_row) refl

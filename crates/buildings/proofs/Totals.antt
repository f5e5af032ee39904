-- What holds of the counts of every list of records holds of one record: it is accepted or refused by one number, each of its segments is heavy or light, and sums go
-- record by record.
use mathlib.Core.Path.{◌≡◌, refl, sym, ap, ◌∙◌}
use mathlib.Core.Logic.{⊎_elim}
use mathlib.Core.Bool.{false}
use mathlib.Core.List.{List, [], ◌∷◌}
use Prim.Native.Nat.{ℕ, zero, suc, ◌+◌, ◌≤◌, ◌<◌}
use native.Mathlib.Omega.{arith}
use lib.Dec.{eqb}
use lib.ListN.{length}
use borrow.Author.Tests.{eq-eqb, ne_eqb}
use Rattle.plain.specs.Pick.{one}
use Rattle.plain.specs.At.{at, tab}
use Rattle.plain.specs.Sums.{sum_to, total}
use Rattle.plain.proofs.Picks.{true-false}
use Rattle.plain.proofs.Lists.{at-tab, at-tab-past, lt-or-ge}
use Rattle.plain.proofs.Sums.{sum_same, sum-add, sum-zero}
use Rattle.refusals.specs.Numbers.{loop, long_path}
use Rattle.refusals.specs.Readers.{is_readers}
use Rattle.tables.specs.Limits.{cost_max}
use Rattle.plans.specs.Diagram.{segment_count}
use Rattle.plans.specs.Calls.{task_of}
use Rattle.buildings.specs.Task.{of_accepted, refused_by, heavy_in, light_in}
use Rattle.buildings.specs.Counts.{numbers_max, counts_of}
use Rattle.buildings.proofs.Alone.{Own, own-high, Alone, alone}
use Rattle.buildings.proofs.Alone.Own.{reader, looped, outrun}
use Rattle.buildings.proofs.Alone.Alone.{turned, taken}
use Rattle.buildings.proofs.Sized.{heavy-light}

-- sums of the same, and of two together; a sum over numbers and records in either order
total-same : {A : Type 0} (f g : A → ℕ) → ((x : A) → f x ≡ g x) → (entries : List A) → total f entries ≡ total g entries
unfolding total
total-same f g e [] = refl
total-same f g e (x ∷ entries) = let a = e x in let b = total-same f g e entries in omega arith

total-add : {A : Type 0} (f g : A → ℕ) (entries : List A) → total f entries + total g entries ≡ total (λ x. f x + g x) entries
unfolding total
total-add f g [] = refl
total-add f g (x ∷ entries) = let a = total-add f g entries in omega arith

total-swap : {A : Type 0} (n : ℕ) (f : ℕ → A → ℕ) (entries : List A) → sum_to n (λ k. total (f k) entries) ≡ total (λ x. sum_to n (λ k. f k x)) entries
unfolding total
total-swap n f [] = sum-zero n
total-swap n f (x ∷ entries) = sum-add n (λ k. f k x) (λ k. total (f k) entries) ∙ ap (λ (s : ℕ). sum_to n (λ k. f k x) + s) (total-swap n f entries)

total-ones : {A : Type 0} (entries : List A) → total (λ _. 1) entries ≡ length entries
unfolding total
total-ones [] = refl
total-ones (x ∷ entries) = let a = total-ones entries in omega arith

total-none : {A : Type 0} (f : A → ℕ) → ((x : A) → f x ≡ 0) → (entries : List A) → total f entries ≡ 0
unfolding total
total-none f e [] = refl
total-none f e (x ∷ entries) = let a = e x in let b = total-none f e entries in omega arith

-- one number counts once, if it is below n
sum_past : (n i : ℕ) → n ≤ i → sum_to n (λ k. one (eqb i k)) ≡ 0
sum_past n i h = sum_same n _ (λ k. 0) (λ k l. rw (ne_eqb i k (λ q. omega arith))) ∙ sum-zero n

sum-once : (n i : ℕ) → i < n → sum_to n (λ k. one (eqb i k)) ≡ 1
unfolding sum_to
sum-once zero i h = absurd (omega arith)
sum-once (suc n) i h = ⊎_elim
    (λ (l : i < n). rw (sum-once n i l, ne_eqb i n (λ q. omega arith)))
    (λ (l : n ≤ i). let q : i ≡ n = omega arith in rw (sum_past n i l, eq-eqb i n q))
    (lt-or-ge i n)

module _ (cost : ℕ) (allowed : cost ≤ cost_max) where
  -- a record is accepted, or refused by one number
  one_way : (bytes : List ℕ) → of_accepted (λ t. 1) cost bytes + sum_to numbers_max (λ k. refused_by k cost bytes) ≡ 1
  one_way bytes = by (alone bytes cost allowed)
    where
      by : Alone bytes cost → of_accepted (λ t. 1) cost bytes + sum_to numbers_max (λ k. refused_by k cost bytes) ≡ 1
      by (turned r own is) = rw (is ℕ (λ _. 0) (λ t. 1), sum_same numbers_max _ (λ k. one (eqb r.number k)) (λ k h. is ℕ (λ r. one (eqb r.number k)) (λ _. 0)))
          (omega (arith, sum-once numbers_max r.number (own-high own)))
      by (taken ok is) = rw (is ℕ (λ _. 0) (λ t. 1), sum_same numbers_max _ (λ k. 0) (λ k h. is ℕ (λ r. one (eqb r.number k)) (λ _. 0)), sum-zero numbers_max) refl

  -- its segments are heavy or light
  kinds : (bytes : List ℕ) → of_accepted heavy_in cost bytes + of_accepted light_in cost bytes ≡ of_accepted segment_count cost bytes
  kinds bytes = by (alone bytes cost allowed)
    where
      by : Alone bytes cost → of_accepted heavy_in cost bytes + of_accepted light_in cost bytes ≡ of_accepted segment_count cost bytes
      by (turned r own is) = rw (is ℕ (λ _. 0) heavy_in, is ℕ (λ _. 0) light_in, is ℕ (λ _. 0) segment_count) refl
      by (taken ok is) = rw (is ℕ (λ _. 0) heavy_in, is ℕ (λ _. 0) light_in, is ℕ (λ _. 0) segment_count) (heavy-light (task_of bytes cost))

  -- and no other number refuses it
  others : (k : ℕ) → is_readers k ≡ false → (k ≡ loop → ⊥) → (k ≡ long_path → ⊥) → (bytes : List ℕ) → refused_by k cost bytes ≡ 0
  others k f n m bytes = by (alone bytes cost allowed)
    where
      not_own : {number : ℕ} → Own number → number ≡ k → ⊥
      not_own (reader e) q = true-false (rw q at e) f
      not_own looped q = n (sym q)
      not_own outrun q = m (sym q)

      by : Alone bytes cost → refused_by k cost bytes ≡ 0
      by (turned r own is) = is ℕ (λ r. one (eqb r.number k)) (λ _. 0) ∙ rw (ne_eqb r.number k (not_own own))
      by (taken ok is) = is ℕ (λ r. one (eqb r.number k)) (λ _. 0)

  module _ (records : List (List ℕ)) where
    pub records-all : (counts_of records cost).records ≡ (counts_of records cost).accepted + sum_to numbers_max (at (counts_of records cost).refused)
    unfolding counts_of
    records-all =
        sym (total-ones records) ∙ total-same _ _ (λ b. sym (one_way b)) records
        ∙ sym (total-add (of_accepted (λ t. 1) cost) (λ b. sum_to numbers_max (λ k. refused_by k cost b)) records)
        ∙ ap (λ (s : ℕ). total (of_accepted (λ t. 1) cost) records + s)
        (sym (total-swap numbers_max (λ k. refused_by k cost) records) ∙ sum_same numbers_max _ (at (tab numbers_max (λ k. total (refused_by k cost) records))) (λ k h. sym (at-tab numbers_max (λ k. total (refused_by k cost) records) k h)))

    pub segments-all : (counts_of records cost).heavy + (counts_of records cost).light ≡ (counts_of records cost).segments
    unfolding counts_of
    segments-all = total-add (of_accepted heavy_in cost) (of_accepted light_in cost) records ∙ total-same _ (of_accepted segment_count cost) kinds records

    pub numbers-own : (k : ℕ) → is_readers k ≡ false → (k ≡ loop → ⊥) → (k ≡ long_path → ⊥) → at (counts_of records cost).refused k ≡ 0
    unfolding counts_of
    numbers-own k f n m = ⊎_elim
        (λ (h : k < numbers_max). at-tab numbers_max (λ k. total (refused_by k cost) records) k h ∙ total-none (refused_by k cost) (others k f n m) records)
        (λ (h : numbers_max ≤ k). at-tab-past numbers_max (λ k. total (refused_by k cost) records) k h)
        (lt-or-ge k numbers_max)

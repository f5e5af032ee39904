-- The call case by case: the rules are tried in turn, each that is broken says how, and the record is written once none is.
use Rattle.std.specs.Prelude.{Result, Ok, Err, ⊤}
use Prim.Native.Nat.{ℕ, zero, suc, ◌≤◌, ◌<◌}
use mathlib.Core.Path.{◌≡◌, ap}
use mathlib.Core.Logic.{◌⊎◌, inl, inr, ⊎_elim}
use mathlib.Core.Bool.{false}
use mathlib.Core.List.{List}
use native.Mathlib.Nat.{le_of_suc-le-suc, not-suc-le-zero, eq-or-lt_of_le}
use native.Mathlib.Omega.{arith}
use lib.Dec.{ltb}
use lib.ListN.{length}
use borrow.Author.Tests.{ltb-true, ltb-false}
use Rattle.plain.specs.At.{at}
use Rattle.plain.specs.Tests.{between}
use Rattle.plain.proofs.Lists.{lt-or-ge}
use Rattle.plain.proofs.Picks.{true-false, pick-case}
use Rattle.plain.proofs.Tests.{between-true, true-between}
use Rattle.refusals.specs.Numbers.{few_words, wrong_length, bad_plan, big_word}
use Rattle.refusals.specs.declared.Refusal.{Refusal}
use Rattle.refusals.specs.Refusal.{refusal, on_outcome}
use Rattle.tables.specs.Limits.{count_max}
use Rattle.numbers.proofs.Cases.{clash}
use Rattle.plans.specs.Words.{words_max}
use Rattle.planwriters.specs.Writing.{numbers_of, plan_record_of, value_limit, are_small, after_counts, before_writing, unwritten, written, write_plan_call}
use Rattle.planwriters.specs.Inner.Parts.{count_of}
use Rattle.planwriters.specs.Inner.Fits.{Small, Counted, Fits}
use Rattle.planwriters.proofs.Small.{small-values}
use Rattle.planwriters.proofs.Numbers.{counted-whole, small-numbers}

-- a count outside 1..64
count-outside : (x : ℕ) → between 1 x count_max ≡ false → (x < 1) ⊎ (count_max < x)
count-outside x e = ⊎_elim
    (λ (h : x < 1). inl h)
    (λ (l : 1 ≤ x). ⊎_elim (λ (h : count_max < x). inr h) (λ (h : x ≤ count_max). absurd (true-false (true-between 1 x count_max l h) e)) (lt-or-ge count_max x))
    (lt-or-ge x 1)

-- one of the first n values is big, or none is
any-big : (values : List ℕ) (n : ℕ) → ((k : ℕ) × (k < n) × (value_limit ≤ at values k)) ⊎ ((k : ℕ) → k < n → at values k < value_limit)
any-big values zero = inr (λ k h. absurd (not-suc-le-zero h))
any-big values (suc n) = ⊎_elim
    (λ (b : (k : ℕ) × (k < n) × (value_limit ≤ at values k)). inl (b.0, omega (arith, b.1), b.2))
    (λ (s : (k : ℕ) → k < n → at values k < value_limit). ⊎_elim
    (λ (h : at values n < value_limit). inr (λ k l. ⊎_elim (λ (q : k ≡ n). rw q h) (λ (m : k < n). s k m) (eq-or-lt_of_le (le_of_suc-le-suc l))))
    (λ (h : value_limit ≤ at values n). inl (n, omega arith, h))
    (lt-or-ge (at values n) value_limit))
    (any-big values n)

-- so numbers that are not all small have a big id or a big word
number-big : (words : List ℕ) (id : ℕ) → Counted words → are_small (numbers_of id words) ≡ false → (value_limit ≤ id) ⊎ ((k : ℕ) × (k < count_of words) × (value_limit ≤ at words k))
number-big words id c e = ⊎_elim
    (λ (h : id < value_limit). ⊎_elim
    (λ b. inr b)
    (λ (s : (k : ℕ) → k < count_of words → at words k < value_limit). absurd (true-false (small-numbers words (counted-whole c) id h s) e))
    (any-big words (count_of words)))
    (λ (h : value_limit ≤ id). inl h)
    (lt-or-ge id value_limit)

module _ {A : Type 0} (refuse : Refusal → A) (go : A) (words : List ℕ) (room id : ℕ) where
  -- 16; 24 at either count; 28; 19; else the record is written
  pub data Ruled : A → Type 0 where
    few : length words < words_max → Ruled (refuse (refusal few_words 0))
    bad-segments : words_max ≤ length words → (at words 1 < 1) ⊎ (count_max < at words 1) → Ruled (refuse (refusal bad_plan 1))
    bad-nodes : words_max ≤ length words → (1 ≤ at words 1) × (at words 1 ≤ count_max) → (at words 2 < 1) ⊎ (count_max < at words 2) → Ruled (refuse (refusal bad_plan 2))
    big : Counted words → (value_limit ≤ id) ⊎ ((k : ℕ) × (k < count_of words) × (value_limit ≤ at words k)) → Ruled (refuse (refusal big_word 0))
    short : Counted words → Small (numbers_of id words) → room < length (plan_record_of id words) → Ruled (refuse (refusal wrong_length room))
    fits : Fits words room id → Ruled go

  -- what comes once both counts are in range
  on-counted : Counted words → Ruled (on_outcome refuse go (after_counts words room id))
  on-counted c =
      pick-case (λ o. Ruled (on_outcome refuse go o)) (are_small (numbers_of id words))
      (λ s. let small = small-values (numbers_of id words) s in
      pick-case (λ o. Ruled (on_outcome refuse go o)) (ltb room (length (plan_record_of id words)))
      (λ r. short c small (ltb-true _ _ r))
      (λ r. fits (record { counted = c; small = small; enough = ltb-false _ _ r })))
      (λ s. big c (number-big words id c s))

  -- one of the six
  pub ruled : Ruled (on_outcome refuse go (before_writing words room id))
  unfolding before_writing
  ruled =
      pick-case (λ o. Ruled (on_outcome refuse go o)) (ltb (length words) words_max)
      (λ h. few (ltb-true _ _ h))
      (λ h. let enough = ltb-false _ _ h in
      pick-case (λ o. Ruled (on_outcome refuse go o)) (between 1 (at words 1) count_max)
      (λ s. let segments = between-true 1 (at words 1) count_max s in
      pick-case (λ o. Ruled (on_outcome refuse go o)) (between 1 (at words 2) count_max)
      (λ n. let nodes = between-true 1 (at words 2) count_max n in
      on-counted (record { enough = enough; segments-low = segments.0; segments-high = segments.1; nodes-low = nodes.0; nodes-high = nodes.1 }))
      (λ n. bad-nodes enough segments (count-outside (at words 2) n)))
      (λ s. bad-segments enough (count-outside (at words 1) s)))

-- where no rule refuses, everything fits
pub passes : (words : List ℕ) (room id : ℕ) → before_writing words room id ≡ Ok tt → Fits words room id
passes words room id e = by (ruled {A = Result ⊤ Refusal} Err (Ok tt) words room id) (ap (on_outcome Err (Ok tt)) e)
  where
    by : {o : Result ⊤ Refusal} → Ruled Err (Ok tt) words room id o → o ≡ Ok tt → Fits words room id
    by (few a) e = clash (cc)
    by (bad-segments a b) e = clash (cc)
    by (bad-nodes a b d) e = clash (cc)
    by (big a b) e = clash (cc)
    by (short a b d) e = clash (cc)
    by (fits f) e = f

module _ (words bytes : List ℕ) (id : ℕ) where
  -- the call by what its rules come to
  pub call-refused : (r : Refusal) → before_writing words (length bytes) id ≡ Err r → write_plan_call words bytes id ≡ unwritten bytes r
  unfolding write_plan_call
  call-refused r e = rw e

  pub call-accepted : before_writing words (length bytes) id ≡ Ok tt → write_plan_call words bytes id ≡ written (plan_record_of id words) bytes
  unfolding write_plan_call
  call-accepted e = rw e

  -- so it comes to one of the six
  pub call : Ruled (unwritten bytes) (written (plan_record_of id words) bytes) words (length bytes) id (write_plan_call words bytes id)
  unfolding write_plan_call
  call = ruled (unwritten bytes) (written (plan_record_of id words) bytes) words (length bytes) id

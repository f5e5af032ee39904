-- The two records of an input, case by case: each test that the code makes picks one clause.
use mathlib.Core.Bool.{Bool, true, false}
use mathlib.Core.Path.{◌≡◌, refl, ap, ◌∙◌}
use mathlib.Core.List.{List}
use Prim.Native.Nat.{ℕ, ◌+◌, ◌≤◌, ◌<◌}
use lib.Dec.{ltb}
use lib.ListN.{length}
use borrow.Author.Tests.{lt-ltb, le-ltb}
use Rattle.std.specs.Prelude.{Result, Ok, Err}
use Rattle.plain.specs.Pick.{pick}
use Rattle.plain.proofs.Picks.{pick-case}
use Rattle.refusals.specs.Numbers.{bytes_follow}
use Rattle.refusals.specs.declared.Refusal.{Refusal}
use Rattle.refusals.specs.Refusal.{refusal}
use Rattle.numbers.proofs.Cases.{clash}
use Rattle.records.specs.declared.Read.{Read}
use Rattle.records.specs.Step.{Step, read, and_then}
use Rattle.records.proofs.Cases.{then-read, then-refused}
use Rattle.files.specs.File.{record_at, part_of}
use Rattle.files.proofs.Walked.{Stands, stands}
use Rattle.files.proofs.Walked.Stands.{here, over, cut, wide, thin}
use Rattle.planchecks.specs.Pair.{on_second, on_pair}
use Rattle.planchecks.specs.Inner.Pair.{two_records}

-- a record that stands at a place lies inside the input
pub record-inside : (input : List ℕ) (place : ℕ) {size begin : ℕ} → record_at input place ≡ read size begin → begin + size ≤ length input
record-inside input place {size} {begin} e = by (stands input place) e
  where
    by : {s : Step} → Stands input place s → s ≡ read size begin → begin + size ≤ length input
    by (here {size = v} {n = n} w h) e =
        let same : ◌≡◌ {A = Read} (record { value = v; next = place + n }) (record { value = size; next = begin }) = cc in
        rw (← ap (λ (x : Read). x.value) same, ← ap (λ (x : Read). x.next) same) h
    by (over w h) e = clash cc
    by (cut f) e = clash cc
    by (wide f) e = clash cc
    by (thin f) e = clash cc

module _ {A : Type 0} (refuse : Refusal → A) (go : (bytes plan : List ℕ) → A) (input : List ℕ) where
  -- the second record is refused; bytes follow it; none do
  module _ (begin size : ℕ) where
    pub second-refused : {r : Refusal} → record_at input (begin + size) ≡ Err r → on_second refuse go input begin size ≡ refuse r
    unfolding on_second
    second-refused e = then-refused _ _ _ _ e

    module _ {size' begin' : ℕ} (e : record_at input (begin + size) ≡ read size' begin') where
      pub second-followed : begin' + size' < length input → on_second refuse go input begin size ≡ refuse (refusal bytes_follow (begin' + size'))
      unfolding on_second
      second-followed h = then-read _ _ _ _ _ e ∙ simp (lt-ltb _ _ h)

      pub second-last : length input ≤ begin' + size' → on_second refuse go input begin size ≡ go (part_of input begin size) (part_of input begin' size')
      unfolding on_second
      second-last h = then-read _ _ _ _ _ e ∙ simp (le-ltb _ _ h)

  -- the first record is refused; it is there
  pub pair-refused : {r : Refusal} → record_at input 0 ≡ Err r → on_pair refuse go input ≡ refuse r
  unfolding on_pair
  pair-refused e = then-refused _ _ _ _ e

  pub pair-first : {size begin : ℕ} → record_at input 0 ≡ read size begin → on_pair refuse go input ≡ on_second refuse go input begin size
  unfolding on_pair
  pair-first e = then-read _ _ _ _ _ e

  -- what the input comes to is what its two records, or its refusal, come to
  abbrev pub on_two : Result (List ℕ × List ℕ) Refusal → A
  on_two (Ok (bytes, plan)) = go bytes plan
  on_two (Err r) = refuse r

  second-two : (begin size : ℕ) → on_second refuse go input begin size ≡ on_two (on_second Err (λ bytes plan. Ok (bytes, plan)) input begin size)
  unfolding on_second and_then
  second-two begin size = by (record_at input (begin + size))
    where
      last : (b : Bool) (r : Refusal) (bytes plan : List ℕ) → pick b (refuse r) (go bytes plan) ≡ on_two (pick b (Err r) (Ok (bytes, plan)))
      last true r bytes plan = refl
      last false r bytes plan = refl

      more : ℕ → ℕ → A
      more size' begin' = pick (ltb (begin' + size') (length input)) (refuse (refusal bytes_follow (begin' + size'))) (go (part_of input begin size) (part_of input begin' size'))

      by : (s : Step) → and_then refuse s more ≡ on_two (and_then Err s λ size' begin'. pick (ltb (begin' + size') (length input)) (Err (refusal bytes_follow (begin' + size'))) (Ok (part_of input begin size, part_of input begin' size')))
      by (Ok r) = last (ltb (r.next + r.value) (length input)) _ _ _
      by (Err r) = refl

  pub pair-two : on_pair refuse go input ≡ on_two (two_records input)
  unfolding on_pair and_then
  pair-two = by (record_at input 0)
    where
      by : (s : Step) → and_then refuse s (λ size begin. on_second refuse go input begin size) ≡ on_two (and_then Err s λ size begin. on_second Err (λ bytes plan. Ok (bytes, plan)) input begin size)
      by (Ok r) = second-two r.next r.value
      by (Err r) = refl

  -- what holds of every refusal and of every two records holds of what the input comes to
  module _ (P : A → Type 0) (out : (r : Refusal) → P (refuse r)) (both : (bytes plan : List ℕ) → P (go bytes plan)) where
    then-all : (step : Step) (more : ℕ → ℕ → A) → ((v next : ℕ) → P (more v next)) → P (and_then refuse step more)
    unfolding and_then
    then-all (Ok x) more f = f x.value x.next
    then-all (Err r) more f = out r

    second-all : (begin size : ℕ) → P (on_second refuse go input begin size)
    unfolding on_second
    second-all begin size = then-all (record_at input (begin + size)) _ λ size' begin'.
        pick-case P (ltb (begin' + size') (length input)) (λ _. out _) (λ _. both _ _)

    pub pair-all : P (on_pair refuse go input)
    unfolding on_pair
    pair-all = then-all (record_at input 0) _ λ size begin. second-all begin size

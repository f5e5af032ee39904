-- What is written reads back, and what was read is written again: the numbers of a plan record are all that there is of its id and its words, and each number has one shortest form.
use Prim.Native.Nat.{ℕ, ◌≤◌, ◌<◌}
use mathlib.Core.Path.{◌≡◌, refl, sym, ap, ◌∙◌}
use mathlib.Core.Logic.{◌⊎◌, inl, inr, ⊎_elim}
use mathlib.Core.List.{List}
use native.Mathlib.Omega.{arith}
use lib.ListN.{length, take, drop, get_or-append}
use lib.Seq.{take_at, get_or-take}
use Rattle.plain.specs.At.{at}
use Rattle.refusals.specs.declared.Refusal.{Refusal}
use Rattle.numbers.specs.Number.{plan_more}
use Rattle.numbers.specs.Shortest.{Bytes, all_shortest}
use Rattle.plans.specs.Words.{words_max}
use Rattle.planreaders.specs.Plan.{PlanRead, plan_of}
use Rattle.planreaders.specs.Reading.{filled_with}
use Rattle.planreaders.proofs.Plans.{plan-shape}
use Rattle.planreaders.proofs.Filling.{filled-length}
use Rattle.planreaders.proofs.Trip.{words-read, numbers-complete, numbers-words, complete-numbers, read_again}
use Rattle.planwriters.specs.Writing.{numbers_of, plan_record_of, value_limit, written, write_plan_call}
use Rattle.planwriters.specs.Inner.Parts.{count_of, Whole}
use Rattle.planwriters.specs.Inner.Fits.{Small, Counted, Fits}
use Rattle.planwriters.proofs.Numbers.{counted-whole, numbers-parts-small, parts-numbers-small}
use Rattle.planwriters.proofs.Calls.{Ruled, call}
use Rattle.planwriters.proofs.Calls.Ruled.{few, bad-segments, bad-nodes, big, short, fits}

-- the words that the counts speak of are all that the numbers have of them
pub numbers-front : (id : ℕ) (words : List ℕ) → Whole words → numbers_of id (take (count_of words) words) ≡ numbers_of id words
numbers-front id words whole = ap (numbers_of id) (sym (numbers-words id words whole)) ∙ complete-numbers (numbers_of id words) (numbers-complete id words whole)

-- small numbers have no big id and no big word
abbrev pub Big : (words : List ℕ) (id : ℕ) → Type 0
Big words id = (value_limit ≤ id) ⊎ ((k : ℕ) × (k < count_of words) × (value_limit ≤ at words k))

pub not-big : {words : List ℕ} {id : ℕ} → Counted words → Small (numbers_of id words) → Big words id → ⊥
not-big c s (inl h) = omega (arith, s.each 0)
not-big {words} {id} c s (inr (k, h, l)) =
    let w : at words k < value_limit = rw (get_or-take (count_of words) words k 0 h) at ((numbers-parts-small words (counted-whole c) id s).1.each k) in omega arith

-- where everything fits, no rule refuses
module _ {words : List ℕ} {room id : ℕ} (f : Fits words room id) where
  pub fits-accepted : {A : Type 0} {refuse : Refusal → A} {go x : A} → Ruled refuse go words room id x → x ≡ go
  fits-accepted (few h) = absurd (omega (arith, f.counted.enough))
  fits-accepted (bad-segments w o) = absurd (⊎_elim (λ h. omega (arith, f.counted.segments-low)) (λ h. omega (arith, f.counted.segments-high)) o)
  fits-accepted (bad-nodes w s o) = absurd (⊎_elim (λ h. omega (arith, f.counted.nodes-low)) (λ h. omega (arith, f.counted.nodes-high)) o)
  fits-accepted (big c o) = absurd (not-big c f.small o)
  fits-accepted (short c s h) = absurd (omega (arith, f.enough))
  fits-accepted (fits g) = refl

  -- and what is written reads back
  pub write-back : plan_of (plan_record_of id words) ≡ PlanRead.read id (take (count_of words) words)
  write-back = let c = f.counted in words-read id words (counted-whole c) f.small.each (c.segments-low, c.segments-high) (c.nodes-low, c.nodes-high)

-- a plan that a record holds, at the front of words enough
module _ (plan words : List ℕ) {id : ℕ} {found : List ℕ} (e : plan_of plan ≡ PlanRead.read id found) (h : words_max ≤ length words) where
  abbrev lent : List ℕ
  lent = filled_with found words

  fill-fits : length found ≤ length words
  fill-fits = let s = plan-shape plan e in omega (arith, s.size, s.segments-high, s.nodes-high)

  same_word : (k : ℕ) → k < length found → at lent k ≡ at found k
  same_word k l = get_or-append found (drop (length found) words) 0 k l

  same-segments : at lent 1 ≡ at found 1
  same-segments = same_word 1 (omega (arith, (plan-shape plan e).size))

  same_nodes : at lent 2 ≡ at found 2
  same_nodes = same_word 2 (omega (arith, (plan-shape plan e).size))

  front : take (count_of lent) lent ≡ found
  front = take_at found (drop (length found) words) (count_of lent) (omega (arith, (plan-shape plan e).size, same-segments, same_nodes))

  counted : Counted lent
  counted = let s = plan-shape plan e in record {
    enough = rw (filled-length found words fill-fits) h;
    segments-low = rw same-segments s.segments-low;
    segments-high = rw same-segments s.segments-high;
    nodes-low = rw same_nodes s.nodes-low;
    nodes-high = rw same_nodes s.nodes-high;
  }

  -- its record is written again
  pub write_again : (bytes : List ℕ) → Bytes plan → length plan ≤ length bytes → write_plan_call lent bytes id ≡ written plan bytes
  write_again bytes b room =
      let s = plan-shape plan e in
      let whole = counted-whole counted in
      let same : numbers_of id lent ≡ numbers_of id found = sym (numbers-front id lent whole) ∙ ap (numbers_of id) front in
      let is : plan_record_of id lent ≡ plan = ap (all_shortest plan_more) same ∙ sym (read_again plan b e) in
      let small : Small (take (count_of lent) lent) = rw front (record { each = s.small }) in
      fits-accepted (record { counted = counted; small = parts-numbers-small lent whole id s.id-small small; enough = rw is room }) (call lent bytes id)
      ∙ ap (λ (x : List ℕ). written x bytes) is

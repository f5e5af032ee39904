-- A list's numbers, one after the other. Each that is whole goes behind those that were read, and the first that is not is refused; so a list that is read
-- has the triples that its count says, and the place after it is inside the input.
use Prim.Native.Nat.{ℕ, zero, suc, ◌+◌, ◌-◌, ◌*◌, ◌^◌, ◌≤◌, ◌<◌}
use mathlib.Core.Path.{◌≡◌, refl, sym, ap, ◌∙◌}
use mathlib.Core.List.{List, [], ◌∷◌, ◌++◌, append_assoc, append-nil}
use native.Mathlib.Omega.{arith}
use lib.ListN.{length, drop, set, length-append, length-set}
use Rattle.plain.specs.At.{at}
use Rattle.refusals.specs.declared.Refusal.{Refusal}
use Rattle.refusals.specs.Numbers.{bad_plan}
use Rattle.tables.specs.Limits.{count_max}
use Rattle.numbers.specs.Number.{plan_more}
use Rattle.numbers.proofs.Cases.{clash}
use Rattle.std.specs.Prelude.{Ok, Err}
use Rattle.records.specs.declared.Read.{Read}
use Rattle.records.specs.Step.{Step, read, and_then}
use Rattle.records.specs.Ranged.{whole_in, ranged_in}
use Rattle.records.proofs.Cases.{then-read, then-refused}
use Rattle.records.proofs.Inside.{read-inside, whole-inside, passed}
use Rattle.planreaders.specs.Plan.{Several, values_from, list_at}
use Rattle.planreaders.specs.Plan.Several.{several, refused}
use Rattle.planreaders.specs.Reading.{filled_with}
use Rattle.planreaders.specs.Inner.Listed.{list_step}
use Rattle.planreaders.proofs.Filling.{fill_more}

-- the first value that nine groups do not hold
abbrev pub limit : ℕ
limit = 2 ^ 63

abbrev pub Small : List ℕ → Type 0
Small values = (k : ℕ) → at values k < limit

small_one : {v : ℕ} → v < limit → Small (v ∷ [])
small_one h zero = h
small_one h (suc k) = omega arith

pub small-both : (a b : List ℕ) → Small a → Small b → Small (a ++ b)
small-both [] b p q k = q k
small-both (x ∷ a) b p q zero = p 0
small-both (x ∷ a) b p q (suc k) = small-both a b (λ j. p (suc j)) q k

-- a number that was read is below it, and the place after it is inside the input
pub value-inside : (s : List ℕ) (place v next : ℕ) → whole_in plan_more s place ≡ read v next → place ≤ length s → (v < limit) × (next ≤ length s)
value-inside s place v next e h = read-inside (length s) (λ v. v < 128 ^ suc plan_more) _ v next e (whole-inside plan_more s place h)

-- no number left, and one more
module _ (done bytes : List ℕ) (place : ℕ) where
  pub values-none : (k : ℕ) → k ≤ 0 → values_from k done bytes place ≡ several done place
  unfolding values_from
  values-none zero h = refl
  values-none (suc k) h = absurd (omega arith)

  pub values-more : (k : ℕ) → 0 < k → values_from k done bytes place ≡
      and_then refused (whole_in plan_more bytes place) λ v next. values_from (k - 1) (done ++ v ∷ []) bytes next
  unfolding values_from
  values-more zero h = absurd (omega arith)
  values-more (suc k) h = let e : suc k - 1 ≡ k = omega arith in rw e

-- what a list's reader tells, where it was refused and where it was read
pub list_read : (l : Several) {v next : ℕ} → list_step l ≡ read v next → (values : List ℕ) × (l ≡ several values next) × (at values 0 ≡ v)
list_read (several values place) {v} {next} e =
    let q : ◌≡◌ {A = Read} (record { value = at values 0; next = place }) (record { value = v; next = next }) = cc in
    (values, ap (λ (x : Read). several values x.next) q, ap (λ (x : Read). x.value) q)
list_read (refused r) e = clash cc

pub list-refused : (l : Several) {r : Refusal} → list_step l ≡ Err r → l ≡ refused r
list-refused (several values place) e = clash cc
list-refused (refused r) {r = told} e = let q : r ≡ told = cc in ap refused q

-- what a reader promises of a list: what it tells; and where the list is read, its triples at the front of the words
abbrev Told : Several → Step → (before after : List ℕ) → Type 0
Told l r before after = (r ≡ list_step l) × ((values : List ℕ) (next : ℕ) → l ≡ several values next → after ≡ filled_with (drop 1 values) before)

pub told-refused : {l : Several} {e : Refusal} {r : Step} {before after : List ℕ} → l ≡ refused e → r ≡ Err e → Told l r before after
told-refused d q = (q ∙ sym (ap list_step d), λ values next h. clash (let z = sym d ∙ h in cc))

pub told-read : {l : Several} {values : List ℕ} {next : ℕ} {r : Step} {before after : List ℕ} → l ≡ several values next → r ≡ read (at values 0) next →
    after ≡ filled_with (drop 1 values) before → Told l r before after
told-read {values = values} {before = before} d q s = (q ∙ sym (ap list_step d), λ others next h. let z = sym d ∙ h in let e : values ≡ others = cc in s ∙ ap (λ (x : List ℕ). filled_with (drop 1 x) before) e)

-- the triples of a list while they are read into words: i of them stand at the front, and the others make the rest of the list
pub record Reading (bytes : List ℕ) (from count : ℕ) (before words : List ℕ) (place i : ℕ) : Type 0 where
  pub done : List ℕ
  pub size : length done ≡ i
  pub is : values_from (3 * count) (count ∷ []) bytes from ≡ values_from (3 * count - i) (count ∷ done) bytes place
  pub stored : words ≡ filled_with done before
  pub room : length words ≡ length before
  pub few : i ≤ 3 * count
  pub inside : place ≤ length bytes

-- before the first
pub reading-none : (bytes : List ℕ) (from count : ℕ) (words : List ℕ) → from ≤ length bytes → Reading bytes from count words words from 0
reading-none bytes from count words h = record {
  done = [];
  size = refl;
  is = let e : 3 * count - 0 ≡ 3 * count = omega arith in rw e;
  stored = refl;
  room = refl;
  few = omega arith;
  inside = h;
}

module _ {bytes : List ℕ} {from count : ℕ} {before words : List ℕ} {place i : ℕ} (p : Reading bytes from count before words place i) where
  -- the next is whole
  pub reading-more : {v next : ℕ} → i < 3 * count → 3 * count ≤ length before → whole_in plan_more bytes place ≡ read v next →
      Reading bytes from count before (set words i v) next (i + 1)
  reading-more {v} {next} h l e = record {
    done = p.done ++ v ∷ [];
    size = omega (arith, length-append p.done (v ∷ []), p.size);
    is = let q : 3 * count - i - 1 ≡ 3 * count - (i + 1) = omega arith in
        p.is ∙ values-more (count ∷ p.done) bytes place (3 * count - i) (omega arith) ∙ then-read _ _ _ _ _ e ∙ ap (λ (k : ℕ). values_from k (count ∷ p.done ++ v ∷ []) bytes next) q;
    stored = rw (p.stored, ← p.size) (fill_more p.done before v (omega (arith, p.size)));
    room = length-set words i v ∙ p.room;
    few = omega arith;
    inside = (value-inside bytes place v next e p.inside).1;
  }

  -- it is not
  pub reading-out : {r : Refusal} → i < 3 * count → whole_in plan_more bytes place ≡ Err r → values_from (3 * count) (count ∷ []) bytes from ≡ refused r
  reading-out h e = p.is ∙ values-more (count ∷ p.done) bytes place (3 * count - i) (omega arith) ∙ then-refused _ _ _ _ e

  -- none is left
  pub reading-all : 3 * count ≤ i → values_from (3 * count) (count ∷ []) bytes from ≡ several (count ∷ p.done) place
  reading-all h = p.is ∙ values-none (count ∷ p.done) bytes place (3 * count - i) (omega arith)

-- numbers that were read behind others
record Behind (bytes done : List ℕ) (k : ℕ) (values : List ℕ) (next : ℕ) : Type 0 where
  more : List ℕ
  is : values ≡ done ++ more
  size : length more ≡ k
  small : Small values
  inside : next ≤ length bytes

values-behind : (k : ℕ) (done bytes : List ℕ) (place : ℕ) {values : List ℕ} {next : ℕ} → place ≤ length bytes → Small done →
    values_from k done bytes place ≡ several values next → Behind bytes done k values next
unfolding values_from
values-behind zero done bytes place {values} {next} h p e =
    let q : done ≡ values = cc in
    let d : place ≡ next = cc in
    record { more = []; is = sym q ∙ sym (append-nil done); size = refl; small = rw (← q) p; inside = rw (← d) h }
values-behind (suc k) done bytes place {values} {next} h p e = by (whole_in plan_more bytes place) refl (λ v after q. values-behind k (done ++ v ∷ []) bytes after q)
  where
    by : (s : Step) → whole_in plan_more bytes place ≡ s →
        ((v after : ℕ) → after ≤ length bytes → Small (done ++ v ∷ []) → values_from k (done ++ v ∷ []) bytes after ≡ several values next → Behind bytes (done ++ v ∷ []) k values next) →
        Behind bytes done (suc k) values next
    by (Ok r) q again =
        let i = value-inside bytes place r.value r.next q h in
        let b = again r.value r.next i.1 (small-both done (r.value ∷ []) p (small_one i.0)) (sym (then-read _ _ _ _ _ q) ∙ e) in
        record { more = r.value ∷ b.more; is = b.is ∙ append_assoc done (r.value ∷ []) b.more; size = ap suc b.size; small = b.small; inside = b.inside }
    by (Err r) q again = clash (let z = sym (then-refused _ _ _ _ q) ∙ e in cc)

-- a list by its count
pub list-out : (bytes : List ℕ) (place : ℕ) {r : Refusal} → ranged_in plan_more bad_plan 1 count_max bytes place ≡ Err r → list_at bytes place ≡ refused r
unfolding list_at
list-out bytes place e = then-refused _ _ _ _ e

pub list-more : (bytes : List ℕ) (place : ℕ) {count next : ℕ} → ranged_in plan_more bad_plan 1 count_max bytes place ≡ read count next →
    list_at bytes place ≡ values_from (3 * count) (count ∷ []) bytes next
unfolding list_at
list-more bytes place e = then-read _ _ _ _ _ e

-- a list that was read
pub record Listed (bytes values : List ℕ) (next : ℕ) : Type 0 where
  pub low : 1 ≤ at values 0
  pub high : at values 0 ≤ count_max
  pub size : length values ≡ 1 + 3 * at values 0
  pub small : Small values
  pub inside : next ≤ length bytes

pub listed : (bytes : List ℕ) (place : ℕ) {values : List ℕ} {next : ℕ} → list_at bytes place ≡ several values next → place ≤ length bytes → Listed bytes values next
listed bytes place {values} {next} e h = by (ranged_in plan_more bad_plan 1 count_max bytes place) refl
  where
    by : (s : Step) → ranged_in plan_more bad_plan 1 count_max bytes place ≡ s → Listed bytes values next
    by (Ok r) q =
        let p = passed plan_more bad_plan 1 count_max bytes place _ r.value r.next refl q h in
        let b = values-behind (3 * r.value) (r.value ∷ []) bytes r.next p.inside (small_one (omega (arith, p.most))) (sym (list-more bytes place q) ∙ e) in
        let first : at values 0 ≡ r.value = ap (λ (x : List ℕ). at x 0) b.is in
        let long = ap (length {A = ℕ}) b.is in
        record { low = omega (arith, p.least); high = omega (arith, p.most); size = omega (arith, b.size); small = b.small; inside = b.inside }
    by (Err r) q = clash (let z = sym (list-out bytes place q) ∙ e in cc)

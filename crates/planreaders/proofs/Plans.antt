-- A plan record by its parts: the id, Q and the two lists stand one behind the other, each from the place after the one before, and nothing follows them.
use Prim.Native.Nat.{ℕ, zero, suc, ◌+◌, ◌*◌, ◌^◌, ◌≤◌, ◌<◌}
use mathlib.Core.Path.{◌≡◌, refl, sym, ap, ◌∙◌}
use mathlib.Core.Logic.{◌⊎◌, inl, inr}
use mathlib.Core.List.{List}
use native.Mathlib.Omega.{arith}
use lib.ListN.{length, drop, length-append, length-drop}
use lib.Seq.{get_or-drop}
use borrow.Author.Tests.{lt-ltb, le-ltb}
use Rattle.plain.specs.At.{at}
use Rattle.plain.proofs.Lists.{lt-or-ge}
use Rattle.refusals.specs.declared.Refusal.{Refusal}
use Rattle.refusals.specs.Refusal.{refusal}
use Rattle.refusals.specs.Numbers.{bytes_follow, few_words}
use Rattle.tables.specs.Limits.{count_max}
use Rattle.numbers.specs.Number.{plan_more}
use Rattle.numbers.proofs.Cases.{clash}
use Rattle.std.specs.Prelude.{Result, Ok, Err}
use Rattle.records.specs.Step.{Step, read}
use Rattle.records.specs.Ranged.{whole_in}
use Rattle.records.proofs.Cases.{then-read, then-refused}
use Rattle.plans.specs.Words.{words_max}
use Rattle.planreaders.specs.Plan.{Several, list_at, words_of, PlanRead, on_plan, on_several, nothing_after, plan_of}
use Rattle.planreaders.specs.Reading.{filled_with, unread, filled, read_plan_call}
use Rattle.planreaders.specs.declared.PlanRecord.{PlanRecord}
use Rattle.planreaders.specs.Inner.Listed.{told}
use Rattle.planreaders.proofs.Lists.{limit, Small, small-both, value-inside, Listed, listed}

-- the id and Q, and the places after them
pub record Head (bytes : List ℕ) (id over next : ℕ) : Type 0 where
  pub place : ℕ
  pub first : whole_in plan_more bytes 0 ≡ read id place
  pub second : whole_in plan_more bytes place ≡ read over next
  pub id-small : id < limit
  pub over-small : over < limit
  pub inside : next ≤ length bytes

pub head_of : (bytes : List ℕ) {id place over next : ℕ} → whole_in plan_more bytes 0 ≡ read id place → whole_in plan_more bytes place ≡ read over next → Head bytes id over next
head_of bytes {id} {place} {over} {next} e d =
    let i = value-inside bytes 0 id place e (omega arith) in
    let j = value-inside bytes place over next d i.1 in
    record { place = place; first = e; second = d; id-small = i.0; over-small = j.0; inside = j.1 }

-- the two lists, and the places after them
pub record Both (bytes : List ℕ) (place : ℕ) (segments nodes : List ℕ) (end : ℕ) : Type 0 where
  pub next : ℕ
  pub first : list_at bytes place ≡ Several.several segments next
  pub second : list_at bytes next ≡ Several.several nodes end
  pub one : Listed bytes segments next
  pub two : Listed bytes nodes end

pub both_of : (bytes : List ℕ) (place : ℕ) {segments nodes : List ℕ} {next end : ℕ} → place ≤ length bytes →
    list_at bytes place ≡ Several.several segments next → list_at bytes next ≡ Several.several nodes end → Both bytes place segments nodes end
both_of bytes place {next = next} h e d =
    let l = listed bytes place e h in
    record { next = next; first = e; second = d; one = l; two = listed bytes next d l.inside }

-- what comes after the head
plan_from : (id over : ℕ) (bytes : List ℕ) (place : ℕ) → PlanRead
plan_from id over bytes place =
    on_several PlanRead.refused (list_at bytes place) λ segments next.
    on_several PlanRead.refused (list_at bytes next) λ nodes end.
    nothing_after id (words_of over segments nodes) bytes end

plan-from : {bytes : List ℕ} {id over next : ℕ} → Head bytes id over next → plan_of bytes ≡ plan_from id over bytes next
unfolding plan_of plan_from
plan-from h = then-read _ _ _ _ _ h.first ∙ then-read _ _ _ _ _ h.second

-- a plan record that is read, or has a byte too many
module _ {bytes : List ℕ} {id over next : ℕ} {segments nodes : List ℕ} {end : ℕ} (h : Head bytes id over next) (b : Both bytes next segments nodes end) where
  plan_after : plan_of bytes ≡ nothing_after id (words_of over segments nodes) bytes end
  unfolding plan_from
  plan_after = plan-from h ∙ rw (b.first, b.second)

  pub plan-follows : end < length bytes → plan_of bytes ≡ PlanRead.refused (refusal bytes_follow end)
  plan-follows l = plan_after ∙ simp (lt-ltb _ _ l)

  pub plan-read : length bytes ≤ end → plan_of bytes ≡ PlanRead.read id (words_of over segments nodes)
  plan-read l = plan_after ∙ simp (le-ltb _ _ l)

-- its refusals before that: at the id, at Q, in the segments, in the nodes
module _ (bytes : List ℕ) {r : Refusal} where
  pub id-out : whole_in plan_more bytes 0 ≡ Err r → plan_of bytes ≡ PlanRead.refused r
  unfolding plan_of
  id-out e = then-refused _ _ _ _ e

  pub over-out : {id place : ℕ} → whole_in plan_more bytes 0 ≡ read id place → whole_in plan_more bytes place ≡ Err r → plan_of bytes ≡ PlanRead.refused r
  unfolding plan_of
  over-out e d = then-read _ _ _ _ _ e ∙ then-refused _ _ _ _ d

  module _ {id over place : ℕ} (h : Head bytes id over place) where
    pub segments-out : list_at bytes place ≡ Several.refused r → plan_of bytes ≡ PlanRead.refused r
    unfolding plan_from
    segments-out e = plan-from h ∙ rw e

    pub nodes-out : {segments : List ℕ} {next : ℕ} → list_at bytes place ≡ Several.several segments next → list_at bytes next ≡ Several.refused r → plan_of bytes ≡ PlanRead.refused r
    unfolding plan_from
    nodes-out e d = plan-from h ∙ rw (e, d)

-- what the reader of the whole promises: what it tells; and where the record is read, the plan at the front of the words
abbrev Told : PlanRead → Result PlanRecord Refusal → (before after : List ℕ) → Type 0
Told p r before after = (r ≡ told p) × ((id : ℕ) (words : List ℕ) → p ≡ PlanRead.read id words → after ≡ filled_with words before)

pub told-refused : {p : PlanRead} {e : Refusal} {before after : List ℕ} → p ≡ PlanRead.refused e → Told p (Err e) before after
told-refused d = (sym (ap told d), λ id words h. clash (let z = sym d ∙ h in cc))

pub told-read : {p : PlanRead} {id : ℕ} {words : List ℕ} {count : ℕ} {before after : List ℕ} → p ≡ PlanRead.read id words → length words ≡ count →
    after ≡ filled_with words before → Told p (Ok (record { id = id; words = count })) before after
told-read {id = id} {words} {before = before} d q s = (
  ap (λ (x : ℕ). Ok (record { id = id; words = x })) (sym q) ∙ sym (ap told d),
  λ id others h. let z = sym d ∙ h in let e : words ≡ others = cc in s ∙ ap (λ (x : List ℕ). filled_with x before) e,
)

-- the other way round
pub refused-told : (p : PlanRead) {r : Refusal} → Err r ≡ told p → p ≡ PlanRead.refused r
refused-told (PlanRead.read id words) e = clash cc
refused-told (PlanRead.refused t) {r = r} e = let q : t ≡ r = cc in ap PlanRead.refused q

pub read-told : (p : PlanRead) {r : PlanRecord} → Ok r ≡ told p → (words : List ℕ) × (p ≡ PlanRead.read r.id words) × (length words ≡ r.words)
read-told (PlanRead.read id words) {r = r} e =
    let q : record { id = id; words = length words } ≡ r = cc in (words, ap (λ (x : PlanRecord). PlanRead.read x.id words) q, ap (λ (x : PlanRecord). x.words) q)
read-told (PlanRead.refused t) e = clash cc

-- a plan record that was read, whole
pub record Planned (bytes : List ℕ) (id : ℕ) (words : List ℕ) : Type 0 where
  pub over : ℕ
  pub next : ℕ
  pub segments : List ℕ
  pub nodes : List ℕ
  pub head : Head bytes id over next
  pub both : Both bytes next segments nodes (length bytes)
  pub is : words ≡ words_of over segments nodes

pub planned : (bytes : List ℕ) {id : ℕ} {words : List ℕ} → plan_of bytes ≡ PlanRead.read id words → Planned bytes id words
planned bytes {id} {words} e = from-id (whole_in plan_more bytes 0) refl
  where
    refused : {r : Refusal} → plan_of bytes ≡ PlanRead.refused r → Planned bytes id words
    refused q = clash (let z = sym q ∙ e in cc)

    whole : {v over next end : ℕ} {segments nodes : List ℕ} → Head bytes v over next → Both bytes next segments nodes end → (end < length bytes) ⊎ (length bytes ≤ end) → Planned bytes id words
    whole h b (inl l) = refused (plan-follows h b l)
    whole {v} {over} {next} {end} {segments} {nodes} h b (inr l) =
        let q : end ≡ length bytes = omega (arith, b.two.inside) in
        let z = sym (plan-read h b l) ∙ e in
        let d : v ≡ id = cc in
        let w : words_of over segments nodes ≡ words = cc in
        record { over = over; next = next; segments = segments; nodes = nodes; head = rw d at h; both = rw q at b; is = sym w }

    from-nodes : {v over place next : ℕ} {segments : List ℕ} → Head bytes v over place → list_at bytes place ≡ Several.several segments next →
        (l : Several) → list_at bytes next ≡ l → Planned bytes id words
    from-nodes {place = place} h a (Several.several nodes end) q = whole h (both_of bytes place h.inside a q) (lt-or-ge end (length bytes))
    from-nodes h a (Several.refused r) q = refused (nodes-out bytes h a q)

    from-segments : {v over place : ℕ} → Head bytes v over place → (l : Several) → list_at bytes place ≡ l → Planned bytes id words
    from-segments h (Several.several segments next) q = from-nodes h q (list_at bytes next) refl
    from-segments h (Several.refused r) q = refused (segments-out bytes h q)

    from-over : {v place : ℕ} → whole_in plan_more bytes 0 ≡ read v place → (s : Step) → whole_in plan_more bytes place ≡ s → Planned bytes id words
    from-over p (Ok r) q = from-segments (head_of bytes p q) (list_at bytes r.next) refl
    from-over p (Err r) q = refused (over-out bytes p q)

    from-id : (s : Step) → whole_in plan_more bytes 0 ≡ s → Planned bytes id words
    from-id (Ok r) q = from-over q (whole_in plan_more bytes r.next) refl
    from-id (Err r) q = refused (id-out bytes q)

-- how many words it has
pub words_size : {bytes : List ℕ} {place end : ℕ} (over : ℕ) {segments nodes : List ℕ} → Both bytes place segments nodes end →
    length (words_of over segments nodes) ≡ 3 + 3 * at segments 0 + 3 * at nodes 0
words_size over {segments} {nodes} b =
    omega (arith, length-append (drop 1 segments) (drop 1 nodes), length-drop 1 segments, length-drop 1 nodes, b.one.size, b.two.size)

-- what a plan that was read has: its counts in their range, their triples, and no value that nine groups do not hold
pub record Shape (id : ℕ) (words : List ℕ) : Type 0 where
  pub segments-low : 1 ≤ at words 1
  pub segments-high : at words 1 ≤ count_max
  pub nodes-low : 1 ≤ at words 2
  pub nodes-high : at words 2 ≤ count_max
  pub size : length words ≡ 3 + 3 * at words 1 + 3 * at words 2
  pub small : (k : ℕ) → at words k < 2 ^ 63
  pub id-small : id < 2 ^ 63

pub plan-shape : (bytes : List ℕ) {id : ℕ} {words : List ℕ} → plan_of bytes ≡ PlanRead.read id words → Shape id words
plan-shape bytes e = let p = planned bytes e in let b = p.both in rw p.is (record {
  segments-low = b.one.low;
  segments-high = b.one.high;
  nodes-low = b.two.low;
  nodes-high = b.two.high;
  size = words_size p.over b;
  small = small p.over p.segments p.nodes p.head.over-small b.one.small b.two.small;
  id-small = p.head.id-small;
})
  where
    behind : (l : List ℕ) → Small l → Small (drop 1 l)
    behind l s k = rw (get_or-drop 1 l k 0) (s (1 + k))

    small : (over : ℕ) (segments nodes : List ℕ) → over < limit → Small segments → Small nodes → Small (words_of over segments nodes)
    small over segments nodes h s n zero = h
    small over segments nodes h s n (suc zero) = s 0
    small over segments nodes h s n (suc (suc zero)) = n 0
    small over segments nodes h s n (suc (suc (suc k))) = small-both (drop 1 segments) (drop 1 nodes) (behind segments s) (behind nodes n) k

-- reading into lent words: too few are lent, or enough
module _ (bytes words : List ℕ) where
  pub call-few : length words < words_max → read_plan_call bytes words ≡ unread words (refusal few_words 0)
  unfolding read_plan_call
  call-few h = simp (lt-ltb _ _ h)

  pub call-on : words_max ≤ length words → read_plan_call bytes words ≡ on_plan (unread words) (filled words) (plan_of bytes)
  unfolding read_plan_call
  call-on h = simp (le-ltb _ _ h)

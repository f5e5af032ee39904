-- A plan record's refusals by their rules. What reading still does from a place on depends only on the numbers before it, so along numbers that are fine it is the
-- reading of what is left. Every number is fine or is not, each fine one takes a byte at least, and so every input comes to a refusal or to its numbers.
use Prim.Native.Nat.{ℕ, zero, suc, ◌+◌, ◌*◌, ◌≤◌, ◌<◌}
use mathlib.Core.Path.{◌≡◌, refl, sym, ap, ap₂, subst, ◌∙◌}
use mathlib.Core.Logic.{inl, inr, ⊎_elim}
use mathlib.Core.List.{List, [], ◌∷◌, ◌++◌, append_assoc}
use native.Mathlib.Nat.{le_refl}
use native.Mathlib.Omega.{arith}
use lib.ListN.{length, drop, length-append, length-drop}
use lib.Seq.{take_at, get_or_at, drop-append-add}
use borrow.Author.Tests.{lt-ltb, le-ltb}
use Rattle.plain.specs.At.{at}
use Rattle.plain.proofs.Lists.{lt-or-ge}
use Rattle.refusals.specs.declared.Refusal.{Refusal}
use Rattle.std.specs.Prelude.{Ok, Err}
use Rattle.refusals.specs.Refusal.{refusal}
use Rattle.refusals.specs.Numbers.{bad_plan}
use Rattle.tables.specs.Limits.{count_max}
use Rattle.numbers.specs.Number.{plan_more}
use Rattle.numbers.specs.Form.{Whole}
use Rattle.numbers.proofs.Forms as forms
use Rattle.numbers.proofs.Cases.{clash}
use Rattle.records.specs.Step.{Step, and_then}
use Rattle.records.specs.Ranged.{whole_in, ranged_in}
use Rattle.records.proofs.Cases.{then-read, then-refused, ranged-refused, ranged-out, ranged-in}
use Rattle.records.proofs.Expected.{whole-read, ends_read, long-read, padded-read, ByRule, by-rule}
use Rattle.planreaders.specs.Plan.{Several, on_several, values_from, list_at, words_of, PlanRead, nothing_after, plan_of}
use Rattle.planreaders.specs.Met.{CountDue, Complete, Met, Refuses, Spelt, words_in}
use Rattle.planreaders.specs.Met.Met.{begin, on}
use Rattle.planreaders.specs.Met.Refuses.{ends, long, padded, outside, follow}

-- a step before several numbers
on_then : (step : Step) (then : ℕ → ℕ → Several) (more : List ℕ → ℕ → PlanRead) →
    on_several PlanRead.refused (and_then Several.refused step then) more ≡ and_then PlanRead.refused step (λ v next. on_several PlanRead.refused (then v next) more)
unfolding and_then
on_then (Ok r) then more = refl
on_then (Err r) then more = refl

-- what reading still does from a place on: after the nodes, after the segments, after Q, after the id
abbrev at_end : (bytes : List ℕ) (id over : ℕ) (segments nodes : List ℕ) (end : ℕ) → PlanRead
at_end bytes id over segments nodes end = nothing_after id (words_of over segments nodes) bytes end

abbrev from_nodes : (bytes : List ℕ) (id over : ℕ) (segments : List ℕ) (place : ℕ) → PlanRead
from_nodes bytes id over segments place = on_several PlanRead.refused (list_at bytes place) (at_end bytes id over segments)

abbrev from_lists : (bytes : List ℕ) (id over place : ℕ) → PlanRead
from_lists bytes id over place = on_several PlanRead.refused (list_at bytes place) (from_nodes bytes id over)

abbrev from_over : (bytes : List ℕ) (id place : ℕ) → PlanRead
from_over bytes id place = and_then PlanRead.refused (whole_in plan_more bytes place) (from_lists bytes id)

-- a place that is reached, by the numbers before it: k more are expected in a list
data Onward (bytes : List ℕ) (place : ℕ) : (values : List ℕ) → Type 0 where
  id-due : plan_of bytes ≡ and_then PlanRead.refused (whole_in plan_more bytes place) (from_over bytes) → Onward bytes place []
  over-due : {id : ℕ} → plan_of bytes ≡ from_over bytes id place → Onward bytes place (id ∷ [])
  lists-due : {id over : ℕ} → plan_of bytes ≡ from_lists bytes id over place → Onward bytes place (id ∷ over ∷ [])
  in-segments : (id over s : ℕ) (vs : List ℕ) (k : ℕ) → length vs + k ≡ 3 * s →
      plan_of bytes ≡ on_several PlanRead.refused (values_from k (s ∷ vs) bytes place) (from_nodes bytes id over) → Onward bytes place (id ∷ over ∷ s ∷ vs)
  in-nodes : (id over s n : ℕ) (vs us : List ℕ) (k : ℕ) → length vs ≡ 3 * s → length us + k ≡ 3 * n →
      plan_of bytes ≡ on_several PlanRead.refused (values_from k (n ∷ us) bytes place) (at_end bytes id over (s ∷ vs)) → Onward bytes place (id ∷ over ∷ s ∷ (vs ++ n ∷ us))

-- what is to be done there: nothing more, a count, or any other number; and with the number read, the place after it is reached
data Turn (bytes : List ℕ) (place : ℕ) (values : List ℕ) : Type 0 where
  finished : Complete values → plan_of bytes ≡ nothing_after (at values 0) (words_in values) bytes place → Turn bytes place values
  counted : CountDue values → (more : ℕ → ℕ → PlanRead) → plan_of bytes ≡ and_then PlanRead.refused (ranged_in plan_more bad_plan 1 count_max bytes place) more →
      ((v next : ℕ) → plan_of bytes ≡ more v next → Onward bytes next (values ++ v ∷ [])) → Turn bytes place values
  plain : (Complete values → ⊥) → (CountDue values → ⊥) → (more : ℕ → ℕ → PlanRead) → plan_of bytes ≡ and_then PlanRead.refused (whole_in plan_more bytes place) more →
      ((v next : ℕ) → plan_of bytes ≡ more v next → Onward bytes next (values ++ v ∷ [])) → Turn bytes place values

-- the nodes' count stands behind the segments' triples, and the words are the lists' own
module _ (id over s n : ℕ) (vs us : List ℕ) (h : length vs ≡ 3 * s) where
  pub nodes-count : at (id ∷ over ∷ s ∷ (vs ++ n ∷ us)) (3 + 3 * s) ≡ n
  nodes-count = let q : 3 + 3 * s ≡ suc (suc (suc (3 * s))) = omega arith in rw q (get_or_at vs n us 0 (3 * s) h)

  pub nodes-words : words_of over (s ∷ vs) (n ∷ us) ≡ words_in (id ∷ over ∷ s ∷ (vs ++ n ∷ us))
  nodes-words =
      let q : 4 + 3 * s ≡ suc (suc (suc (length vs + 1))) = omega arith in
      let behind : us ≡ drop (4 + 3 * s) (id ∷ over ∷ s ∷ (vs ++ n ∷ us)) = rw q (sym (drop-append-add vs (n ∷ us) 1)) in
      ap₂ (λ (m : ℕ) (l : List ℕ). over ∷ s ∷ m ∷ l) (sym nodes-count) (ap₂ ◌++◌ (sym (take_at vs (n ∷ us) (3 * s) h)) behind)

turn : {bytes : List ℕ} {place : ℕ} {values : List ℕ} → Onward bytes place values → Turn bytes place values
unfolding list_at values_from
turn (id-due e) = plain (λ c. omega arith) (⊎_elim (λ d. omega arith) (λ d. omega arith)) _ e (λ v next q. over-due q)
turn (over-due e) = plain (λ c. omega arith) (⊎_elim (λ d. omega arith) (λ d. omega arith)) _ e (λ v next q. lists-due q)
turn (lists-due {id} {over} e) = counted (inl refl) _ (e ∙ on_then _ _ _) (λ v next q. in-segments id over v [] (3 * v) (omega arith) q)
turn (in-segments id over s vs zero size e) = counted (inr (omega arith)) _ (e ∙ on_then _ _ _) (λ v next q. in-nodes id over s v vs [] (3 * v) (omega arith) (omega arith) q)
turn (in-segments id over s vs (suc k) size e) =
    plain (λ c. omega arith) (⊎_elim (λ d. omega arith) (λ d. omega arith)) _ (e ∙ on_then _ _ _) (λ v next q. in-segments id over s (vs ++ v ∷ []) k (omega (arith, length-append vs (v ∷ []))) q)
turn {bytes} {place} (in-nodes id over s n vs us zero front size e) =
    finished (omega (arith, length-append vs (n ∷ us), nodes-count id over s n vs us front)) (e ∙ ap (λ (w : List ℕ). nothing_after id w bytes place) (nodes-words id over s n vs us front))
turn {bytes} (in-nodes id over s n vs us (suc k) front size e) =
    let long = length-append vs (n ∷ us) in
    let last = nodes-count id over s n vs us front in
    plain (λ c. omega arith) (⊎_elim (λ d. omega arith) (λ d. omega arith)) _ (e ∙ on_then _ _ _) (λ v next q.
    subst (λ (l : List ℕ). Onward bytes next (id ∷ over ∷ s ∷ l)) (sym (append_assoc vs (n ∷ us) (v ∷ []))) (in-nodes id over s n vs (us ++ v ∷ []) k front (omega (arith, length-append us (v ∷ []))) q))

-- a record is not complete where a count is due
due-open : (values : List ℕ) → CountDue values → Complete values → ⊥
due-open values d c = ⊎_elim (λ d. omega arith) (λ d. omega arith) d

module _ (bytes : List ℕ) where
  -- along fine numbers, reading is the reading of what is left
  reached : {place : ℕ} {values : List ℕ} → Met bytes place values → Onward bytes place values
  unfolding plan_of
  reached begin = id-due refl
  reached (on {place = place} {v = v} {n = n} {values = values} m some w range) = by (turn (reached m))
    where
      by : Turn bytes place values → Onward bytes (place + n) (values ++ v ∷ [])
      by (finished c e) = absurd (some c)
      by (counted d more e go) = go v (place + n) (e ∙ then-read _ _ _ _ _ (ranged-in plan_more _ _ _ bytes place v (place + n) (whole-read plan_more bytes place w) (range d).0 (range d).1))
      by (plain c d more e go) = go v (place + n) (e ∙ then-read _ _ _ _ _ (whole-read plan_more bytes place w))

  -- so what is refused by a rule is refused by that number at that place, and what is spelt is read
  stops : {place : ℕ} {values : List ℕ} {r : Refusal} → Met bytes place values → (Complete values → ⊥) → whole_in plan_more bytes place ≡ Err r → plan_of bytes ≡ PlanRead.refused r
  stops {place} {values} {r} m some q = by (turn (reached m))
    where
      by : Turn bytes place values → plan_of bytes ≡ PlanRead.refused r
      by (finished c e) = absurd (some c)
      by (counted d more e go) = e ∙ then-refused _ _ _ _ (ranged-refused plan_more _ _ _ bytes place _ q)
      by (plain c d more e go) = e ∙ then-refused _ _ _ _ q

  ended : {place : ℕ} {values : List ℕ} → Met bytes place values → Complete values → plan_of bytes ≡ nothing_after (at values 0) (words_in values) bytes place
  ended {place} {values} m complete = by (turn (reached m))
    where
      by : Turn bytes place values → plan_of bytes ≡ nothing_after (at values 0) (words_in values) bytes place
      by (finished c e) = e
      by (counted d more e go) = absurd (due-open values d complete)
      by (plain c d more e go) = absurd (c complete)

  pub rule-refused : {k place : ℕ} → Refuses bytes k place → plan_of bytes ≡ PlanRead.refused (refusal k place)
  rule-refused (ends {place = place} m some f) = stops m some (ends_read plan_more bytes place f)
  rule-refused (long {place = place} m some f) = stops m some (long-read plan_more bytes place f)
  rule-refused (padded {place = place} m some f) = stops m some (padded-read plan_more bytes place f)
  rule-refused (outside {place = place} {v = v} {n = n} {values = values} m due w o) = by (turn (reached m))
    where
      by : Turn bytes place values → plan_of bytes ≡ PlanRead.refused (refusal bad_plan place)
      by (finished c e) = absurd (due-open values due c)
      by (counted d more e go) = e ∙ then-refused _ _ _ _ (ranged-out plan_more _ _ _ bytes place v (place + n) (whole-read plan_more bytes place w) o)
      by (plain c d more e go) = absurd (d due)
  rule-refused (follow m complete h) = ended m complete ∙ simp (lt-ltb _ _ h)

  pub spelt-read : {values : List ℕ} → Spelt bytes values → plan_of bytes ≡ PlanRead.read (at values 0) (words_in values)
  spelt-read (m, complete) = ended m complete ∙ simp (le-ltb _ _ (le_refl (length bytes)))

  -- a place that is reached is inside the input
  pub met-inside : {place : ℕ} {values : List ℕ} → Met bytes place values → place ≤ length bytes
  met-inside begin = omega arith
  met-inside (on {place = place} m some w range) = omega (arith, met-inside m, forms.form-within w.0, length-drop place bytes)

  -- what an input comes to
  pub data Comes : Type 0 where
    refuses : {k place : ℕ} → Refuses bytes k place → Comes
    spells : {values : List ℕ} → Spelt bytes values → Comes

  -- what is expected at a place is there, and then `again` goes on after it; or this is the end
  comes-at : {place : ℕ} {values : List ℕ} → Met bytes place values → ((later : ℕ) (values : List ℕ) → place < later → Met bytes later values → Comes) → Comes
  comes-at {place} {values} m again = by (turn (reached m))
    where
      whole : (Complete values → ⊥) → (v n : ℕ) → Whole plan_more (drop place bytes) v n → (CountDue values → (1 ≤ v) × (v ≤ count_max)) → Comes
      whole some v n w range = again (place + n) (values ++ v ∷ []) (omega (arith, forms.form-some w.0)) (on m some w range)

      counts : CountDue values → (v n : ℕ) → Whole plan_more (drop place bytes) v n → Comes
      counts d v n w = ⊎_elim
          (λ (l : v < 1). refuses (outside m d w (inl l)))
          (λ (l : 1 ≤ v). ⊎_elim
          (λ (h : count_max < v). refuses (outside m d w (inr h)))
          (λ (h : v ≤ count_max). whole (due-open values d) v n w (λ _. (l, h)))
          (lt-or-ge count_max v))
          (lt-or-ge v 1)

      number : (Complete values → ⊥) → ((v n : ℕ) → Whole plan_more (drop place bytes) v n → Comes) → forms.Found plan_more (drop place bytes) → Comes
      number some go (forms.Found.ends f) = refuses (ends m some f)
      number some go (forms.Found.long f) = refuses (long m some f)
      number some go (forms.Found.padded f) = refuses (padded m some f)
      number some go (forms.Found.whole v n w) = go v n w

      by : Turn bytes place values → Comes
      by (finished c e) = ⊎_elim
          (λ (h : place < length bytes). refuses (follow m c h))
          (λ (h : length bytes ≤ place). let q : place ≡ length bytes = omega (arith, met-inside m) in spells (rw q at m, c))
          (lt-or-ge place (length bytes))
      by (counted d more e go) = number (due-open values d) (counts d) (forms.found plan_more (drop place bytes))
      by (plain c d more e go) = number c (λ v n w. whole c v n w (λ q. absurd (d q))) (forms.found plan_more (drop place bytes))

  -- from a place on, with at most so many bytes left
  comes-from : (left : ℕ) {place : ℕ} {values : List ℕ} → length bytes ≤ place + left → Met bytes place values → Comes
  comes-from zero b m = comes-at m λ later values l f. absurd (omega (arith, met-inside f))
  comes-from (suc left) b m = comes-at m λ later values l f. comes-from left (omega arith) f

  pub comes : Comes
  comes = comes-from (length bytes) (omega arith) begin

  -- and so a refusal is by its rule, and a plan that is read is the one that is spelt
  pub refused-rule : (r : Refusal) → plan_of bytes ≡ PlanRead.refused r → ByRule (Refuses bytes) r
  refused-rule r q = by comes
    where
      by : Comes → ByRule (Refuses bytes) r
      by (refuses {k = k} {place = place} f) = let z = sym (rule-refused f) ∙ q in let d : refusal k place ≡ r = cc in by-rule (Refuses bytes) f (ap Err d)
      by (spells f) = clash (let z = sym (spelt-read f) ∙ q in cc)

  pub read-spelt : {id : ℕ} {words : List ℕ} → plan_of bytes ≡ PlanRead.read id words → (values : List ℕ) × Spelt bytes values × (at values 0 ≡ id) × (words_in values ≡ words)
  read-spelt {id} {words} q = by comes
    where
      by : Comes → (values : List ℕ) × Spelt bytes values × (at values 0 ≡ id) × (words_in values ≡ words)
      by (refuses f) = clash (let z = sym (rule-refused f) ∙ q in cc)
      by (spells {values = values} f) = let z = sym (spelt-read f) ∙ q in (values, f, cc, cc)

-- a refusal's number is neither 0, which would be told as an acceptance, nor 10
pub rule-number : {bytes : List ℕ} {k place : ℕ} → Refuses bytes k place → (k ≡ 0 → ⊥) × (k ≡ 10 → ⊥)
rule-number (ends m c f) = (λ z. omega arith, λ z. omega arith)
rule-number (long m c f) = (λ z. omega arith, λ z. omega arith)
rule-number (padded m c f) = (λ z. omega arith, λ z. omega arith)
rule-number (outside m c w o) = (λ z. omega arith, λ z. omega arith)
rule-number (follow m c h) = (λ z. omega arith, λ z. omega arith)

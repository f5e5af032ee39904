-- The mender's refusals by their rules. What the definition of a draft still does from a spot on depends only on what is expected there; so along the numbers
-- that are in range it is the draft of what is left. Every number has its fault or has none, each one takes a byte at least, and so every input comes to
-- a refusal or to its table and its lists.
use Prim.Native.Nat.{ℕ, zero, suc, ◌+◌, ◌-◌, ◌≤◌, ◌<◌}
use mathlib.Core.Path.{◌≡◌, refl, sym, ap, ap₂, ◌∙◌}
use mathlib.Core.Logic.{inl, inr, ⊎_elim}
use mathlib.Core.Bool.{Bool, true, false}
use mathlib.Core.List.{List, [], ◌∷◌, ◌++◌}
use native.Mathlib.Nat.{add-zero}
use native.Mathlib.Omega.{arith}
use lib.ListN.{length, drop, length-drop}
use lib.Dec.{ltb}
use borrow.Author.Tests.{ltb-true, ltb-false}
use Rattle.std.specs.Prelude.{Result, Ok, Err}
use Rattle.plain.specs.Pick.{pick}
use Rattle.plain.specs.Sums.{total}
use Rattle.plain.proofs.Lists.{lt-or-ge}
use Rattle.plain.proofs.Sums.{total-behind}
use Rattle.refusals.specs.declared.Refusal.{Refusal}
use Rattle.refusals.specs.Refusal.{refusal}
use Rattle.refusals.specs.Numbers.{ended, too_long, bad_edition, bad_id, bad_period, bad_count, bad_execution}
use Rattle.tables.specs.declared.TaskTable.{TaskTable}
use Rattle.tables.specs.Limits.{edition_max, id_max, period_max, count_max, execution_max, least_execution}
use Rattle.numbers.specs.Number.{record_more}
use Rattle.numbers.specs.Form.{Ends, Long}
use Rattle.numbers.proofs.Forms as forms
use Rattle.records.specs.Nodes.{with_node}
use Rattle.records.specs.Reading.{headed}
use Rattle.records.proofs.Expected.{ByRule, by-rule}
use Rattle.menders.specs.declared.Spot.{Spot}
use Rattle.menders.specs.declared.Draft.{Draft}
use Rattle.listings.specs.Lists.{list_set, reordered, dropped}
use Rattle.menders.specs.Taken.{Step, read, then_taken, then_of, taken_of, any_form, taken}
use Rattle.menders.specs.Listed.{Listed, listed, parent_list}
use Rattle.menders.specs.Draft.{drawn, undrawn, no_more, nodes_taken, draft_of}
use Rattle.menders.specs.Given.{Due, range, Next, node_from, parent_from, after, Number, Meets, Refuses, Gives, counts_of}
use Rattle.menders.specs.Given.Due.{edition, id, period, count, execution, parent_count, parent}
use Rattle.menders.specs.Given.Next.{number, nothing}
use Rattle.menders.specs.Given.Number.{as-shortest, as-padded}
use Rattle.menders.specs.Given.Meets.{begin, on}
use Rattle.menders.specs.Given.Refuses.{ends, long, outside, follow}
use Rattle.menders.proofs.Cases.{then-read, then-refused, taken_refused, taken_out, taken_in, some_more, none_more, nodes-none}

-- the same after every value, and a list in its place
then_same : {A : Type 0} (out : Refusal → A) (step : Step) (more instead : ℕ → Spot → A) → ((v : ℕ) (next : Spot) → more v next ≡ instead v next) →
    then_taken out step more ≡ then_taken out step instead
unfolding then_taken
then_same out (Ok t) more instead e = e t.value t.spot
then_same out (Err r) more instead e = refl

-- what a draft still does from a spot on: from the node count, from the period, from the id, after a node's parents
from_count : ℕ → ℕ → ℕ → List ℕ → Spot → Draft
from_count x d p s spot = then_taken undrawn (taken bad_count 1 count_max s spot) λ n next. nodes_taken n 0 (headed x d p n) 0 0 s next

from_period : ℕ → ℕ → List ℕ → Spot → Draft
from_period x d s spot = then_taken undrawn (taken bad_period 1 period_max s spot) λ p next. from_count x d p s next

from_id : ℕ → List ℕ → Spot → Draft
from_id x s spot = then_taken undrawn (taken bad_id 1 id_max s spot) λ d next. from_period x d s next

from_list : List ℕ → TaskTable → (i : ℕ) → List (List ℕ) → (e : ℕ) → Result Listed Refusal → Draft
from_list s t i lists e found =
    then_of undrawn found λ list.
    nodes_taken (t.count - (i + 1)) (i + 1) (with_node t i e list.set) (total reordered lists + list.reordered) (total dropped lists + list.dropped) s list.spot

onward : List ℕ → Spot → Next → Draft
onward s spot (number edition) = then_taken undrawn (taken bad_edition 1 edition_max s spot) λ x next. from_id x s next
onward s spot (number (id x)) = from_id x s spot
onward s spot (number (period x d)) = from_period x d s spot
onward s spot (number (count x d p)) = from_count x d p s spot
onward s spot (number (execution t i lists)) =
    then_taken undrawn (taken bad_execution (least_execution t.edition) execution_max s spot) λ e next. from_list s t i lists e (parent_list t.count s next)
onward s spot (number (parent_count t i lists e)) = from_list s t i lists e (parent_list t.count s spot)
onward s spot (number (parent t i lists e left given)) = from_list s t i lists e (listed (suc left) t.count s spot given)
onward s spot (nothing t lists) = no_more t (total reordered lists) (total dropped lists) s spot

-- from a node on, from a parent on, and what comes in place of a list
node-onward : (s : List ℕ) (spot : Spot) (t : TaskTable) (i : ℕ) (lists : List (List ℕ)) →
    nodes_taken (t.count - i) i t (total reordered lists) (total dropped lists) s spot ≡ onward s spot (node_from t i lists)
unfolding onward from_list nodes_taken
node-onward s spot t i lists = by (ltb i t.count) refl
  where
    by : (b : Bool) → ltb i t.count ≡ b → nodes_taken (t.count - i) i t (total reordered lists) (total dropped lists) s spot ≡ onward s spot (pick b (number (execution t i lists)) (nothing t lists))
    by true e = let q : t.count - i ≡ suc (t.count - (i + 1)) = omega (arith, ltb-true i t.count e) in rw (q, nodes_taken)
    by false e = nodes-none i t.count t _ _ s spot (ltb-false i t.count e)

parent-onward : (s : List ℕ) (spot : Spot) (t : TaskTable) (i : ℕ) (lists : List (List ℕ)) (e left : ℕ) (given : List ℕ) →
    from_list s t i lists e (listed left t.count s spot given) ≡ onward s spot (parent_from t i lists e left given)
unfolding then_of listed onward from_list
parent-onward s spot t i lists e zero given =
    ap₂ (λ (x y : ℕ). nodes_taken (t.count - (i + 1)) (i + 1) (with_node t i e (list_set given)) x y s spot) (sym (total-behind reordered lists given)) (sym (total-behind dropped lists given))
    ∙ node-onward s spot (with_node t i e (list_set given)) (i + 1) (lists ++ given ∷ [])
parent-onward s spot t i lists e (suc left) given = refl

list-then : (s : List ℕ) (t : TaskTable) (i : ℕ) (lists : List (List ℕ)) (e : ℕ) (step : Step) (more : ℕ → Spot → Result Listed Refusal) →
    from_list s t i lists e (then_taken Err step more) ≡ then_taken undrawn step (λ v next. from_list s t i lists e (more v next))
unfolding then_taken then_of from_list
list-then s t i lists e (Ok found) more = refl
list-then s t i lists e (Err r) more = refl

-- it begins with the number that is expected there, tried in its range
onward-step : (s : List ℕ) (spot : Spot) (d : Due) →
    onward s spot (number d) ≡ then_taken undrawn (taken (range d).broken (range d).low (range d).high s spot) (λ v next. onward s next (after d v))
unfolding onward from_id from_period from_count parent_list listed total
onward-step s spot edition = refl
onward-step s spot (id x) = refl
onward-step s spot (period x d) = refl
onward-step s spot (count x d p) = then_same _ _ _ _ λ n next.
    let e : n ≡ n - 0 = omega arith in ap (λ (k : ℕ). nodes_taken k 0 (headed x d p n) 0 0 s next) e ∙ node-onward s next (headed x d p n) 0 []
onward-step s spot (execution t i lists) = refl
onward-step s spot (parent_count t i lists e) = list-then _ _ _ _ _ _ _ ∙ then_same _ _ _ _ λ k next. parent-onward s next t i lists e k []
onward-step s spot (parent t i lists e left given) = list-then _ _ _ _ _ _ _ ∙ then_same _ _ _ _ λ p next. parent-onward s next t i lists e left (given ++ p ∷ [])

-- the number at a place, by its form
module _ (s : List ℕ) (at padded : ℕ) where
  pub number_read : {v n more : ℕ} → Number (drop at s) v n more → any_form s (record { at = at; padded = padded }) ≡ read v (record { at = at + n; padded = padded + more })
  unfolding any_form
  number_read {v} {n} (as-shortest w) =
      ap (taken_of (length s) (record { at = at; padded = padded })) (forms.whole-read record_more w.0 w.1) ∙ ap (λ (k : ℕ). read v (record { at = at + n; padded = k })) (sym (add-zero padded))
  number_read (as-padded f w) = ap (taken_of (length s) (record { at = at; padded = padded })) (forms.padded-told record_more f.4 f.2 f.3 w)

  ends_read : Ends record_more (drop at s) → any_form s (record { at = at; padded = padded }) ≡ Err (refusal ended (length s))
  unfolding any_form
  ends_read (k, h, l) = ap (taken_of (length s) (record { at = at; padded = padded })) (forms.ends_read record_more l h)

  long-read : Long record_more (drop at s) → any_form s (record { at = at; padded = padded }) ≡ Err (refusal too_long at)
  unfolding any_form
  long-read (rest, l) = ap (taken_of (length s) (record { at = at; padded = padded })) (forms.long-read record_more l)

-- a number takes a byte at least, and its bytes are of the list
number-some : {s : List ℕ} {v n more : ℕ} → Number s v n more → (0 < n) × (n ≤ length s)
number-some (as-shortest w) = (forms.form-some w.0, forms.form-within w.0)
number-some (as-padded f w) = (forms.any_some w, forms.any-within w)

module _ (s : List ℕ) where
  -- along fine numbers, a draft is the draft of what is left
  reached : {at padded : ℕ} {next : Next} → Meets s at padded next → draft_of s ≡ onward s (record { at = at; padded = padded }) next
  unfolding draft_of onward from_id from_period from_count
  reached begin = refl
  reached (on {place = at} {padded = padded} {v = v} {due = d} m w l h) =
      reached m ∙ onward-step s _ d ∙ then-read _ _ _ _ (taken_in _ _ _ s _ _ (number_read s at padded w) l h)

  -- so what is refused by a rule is refused by that number at that place, and what gives a table is read as it
  stops : {at padded : ℕ} {d : Due} {r : Refusal} → Meets s at padded (number d) →
      taken (range d).broken (range d).low (range d).high s (record { at = at; padded = padded }) ≡ Err r → draft_of s ≡ undrawn r
  stops {d = d} m q = reached m ∙ onward-step s _ d ∙ then-refused _ _ _ _ q

  pub rule-refused : {k place : ℕ} → Refuses s k place → draft_of s ≡ undrawn (refusal k place)
  unfolding onward
  rule-refused (ends {place = at} {padded = p} m f) = stops m (taken_refused _ _ _ s _ _ (ends_read s at p f))
  rule-refused (long {place = at} {padded = p} m f) = stops m (taken_refused _ _ _ s _ _ (long-read s at p f))
  rule-refused (outside {place = at} {padded = p} m w o) = stops m (taken_out _ _ _ s _ _ (number_read s at p w) o)
  rule-refused (follow {t = t} m h) = reached m ∙ some_more t _ _ s _ h

  pub given-drawn : {t : TaskTable} {padded : ℕ} {lists : List (List ℕ)} → Gives s t padded lists → draft_of s ≡ drawn t (counts_of padded lists)
  unfolding onward
  given-drawn {t = t} m = reached m ∙ none_more t _ _ s _ (omega arith)

  pub reached-inside : {at padded : ℕ} {next : Next} → Meets s at padded next → at ≤ length s
  reached-inside begin = omega arith
  reached-inside (on {place = at} m w l h) = omega (arith, reached-inside m, number-some w, length-drop at s)

  -- what an input comes to
  pub data Comes : Type 0 where
    refuses : {k place : ℕ} → Refuses s k place → Comes
    gives : {t : TaskTable} {padded : ℕ} {lists : List (List ℕ)} → Gives s t padded lists → Comes

  -- what is expected at a place is there, and then `again` goes on after it; or this is the end
  comes-at : (at padded : ℕ) (next : Next) → Meets s at padded next → ((later padded : ℕ) (next : Next) → at < later → Meets s later padded next → Comes) → Comes
  comes-at at padded (nothing t lists) m again = ⊎_elim
      (λ (h : at < length s). refuses (follow m h))
      (λ (h : length s ≤ at). let q : at ≡ length s = omega (arith, reached-inside m) in gives (rw q at m))
      (lt-or-ge at (length s))
  comes-at at padded (number d) m again = by (forms.found record_more (drop at s))
    where
      tried : {v n more : ℕ} → Number (drop at s) v n more → Comes
      tried {v} {n} w = ⊎_elim
          (λ (l : v < (range d).low). refuses (outside m w (inl l)))
          (λ (l : (range d).low ≤ v). ⊎_elim
          (λ (h : (range d).high < v). refuses (outside m w (inr h)))
          (λ (h : v ≤ (range d).high). again (at + n) _ (after d v) (omega (arith, number-some w)) (on m w l h))
          (lt-or-ge (range d).high v))
          (lt-or-ge v (range d).low)

      by : forms.Found record_more (drop at s) → Comes
      by (forms.Found.ends f) = refuses (ends m f)
      by (forms.Found.long f) = refuses (long m f)
      by (forms.Found.padded f) = tried (as-padded f (forms.padded-worth f.4).1)
      by (forms.Found.whole v n w) = tried (as-shortest w)

  -- from a place on, with at most so many bytes left
  comes-from : (left at padded : ℕ) (next : Next) → length s ≤ at + left → Meets s at padded next → Comes
  comes-from zero at padded next b m = comes-at at padded next m λ later padded next l f. absurd (omega (arith, reached-inside f))
  comes-from (suc left) at padded next b m = comes-at at padded next m λ later padded next l f. comes-from left later padded next (omega arith) f

  pub comes : Comes
  comes = comes-from (length s) 0 0 (number edition) (omega arith) begin

  -- and so a refusal is by its rule
  pub refused-rule : (r : Refusal) → (draft_of s).outcome ≡ Err r → ByRule (Refuses s) r
  refused-rule r q = by comes
    where
      by : Comes → ByRule (Refuses s) r
      by (refuses f) = by-rule (Refuses s) f (ap (λ (x : Draft). x.outcome) (sym (rule-refused f)) ∙ q)
      by (gives m) = absurd (let e = ap (λ (x : Draft). x.outcome) (sym (given-drawn m)) ∙ q in cc)

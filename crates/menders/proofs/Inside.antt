-- No step leaves the given record, and a padded number has a byte at least; a list is reordered once at most, and no more parents are dropped than it has.
use Prim.Native.Nat.{ℕ, zero, suc, ◌+◌, ◌-◌, ◌≤◌}
use mathlib.Core.Path.{◌≡◌, refl, sym, ap, subst, ◌∙◌}
use mathlib.Core.Bool.{Bool, true, false, ◌&&◌}
use mathlib.Core.List.{List, [], ◌∷◌, ◌++◌}
use native.Mathlib.Omega.{arith}
use lib.ListN.{length, take, drop, length-drop, length-append}
use lib.Dec.{leb}
use borrow.Author.Tests.{leb-true}
use Rattle.std.specs.Prelude.{Result, Ok, Err}
use Rattle.plain.specs.Pick.{pick}
use Rattle.refusals.specs.declared.Refusal.{Refusal}
use Rattle.refusals.specs.Numbers.{bad_parent}
use Rattle.refusals.specs.Refusal.{refusal}
use Rattle.numbers.specs.declared.Number.{Number}
use Rattle.numbers.specs.declared.Fault.{Fault}
use Rattle.numbers.specs.declared.Fault.TheVariants.{Ended, TooLong, NotShortest}
use Rattle.numbers.specs.Number.{number, record_more}
use Rattle.numbers.proofs.Bounds.{value-bounded, padded-bounded}
use Rattle.menders.specs.declared.Spot.{Spot}
use Rattle.listings.specs.Lists.{given_max, firsts, ascends, reordered}
use Rattle.menders.specs.Taken.{Taken, Step, read, then_taken, taken_of, any_form, taken}
use Rattle.menders.specs.Listed.{Listed, listed, parent_list}
use Rattle.menders.specs.Inner.Within.{Within}
use Rattle.menders.proofs.Cases.{any-is}

-- what was taken, inside, with a value that is as P says
abbrev pub Inside : List ℕ → (ℕ → Type 0) → Step → Type 0
Inside s P (Ok t) = P t.value × Within s t.spot
Inside s P (Err r) = Unit

-- a number in any form, and one in its range
pub any-inside : (s : List ℕ) (from : Spot) → Within s from → Inside s (λ v. Unit {0}) (any_form s from)
unfolding any_form
any-inside s from (h, p) = by (number record_more (drop from.at s)) refl
  where
    by : (r : Result Number Fault) → number record_more (drop from.at s) ≡ r → Inside s (λ v. Unit {0}) (taken_of (length s) from r)
    by (Ok r) e = let b = value-bounded record_more (drop from.at s) r.value r.length e in (tt, (omega (arith, b.within, length-drop from.at s), omega arith))
    by (Err Ended) e = tt
    by (Err TooLong) e = tt
    by (Err (NotShortest r)) e = let b = padded-bounded record_more (drop from.at s) r.value r.length e in (tt, (omega (arith, b.within, length-drop from.at s), omega (arith, b.some)))

pub reach : (s : List ℕ) (spot : Spot) (r : Number) → Ok r ≡ number record_more (take (length s - spot.at) (drop spot.at s)) → Within s spot → spot.at + r.length ≤ length s
reach s spot r e w = (subst (Inside s (λ v. Unit {0})) (sym (any-is s spot (Ok r) e)) (any-inside s spot w)).1.0

pub reach-padded : (s : List ℕ) (spot : Spot) (r : Number) → Err (NotShortest r) ≡ number record_more (take (length s - spot.at) (drop spot.at s)) → Within s spot →
    Within s (record { at = spot.at + r.length; padded = spot.padded + 1 })
reach-padded s spot r e w = (subst (Inside s (λ v. Unit {0})) (sym (any-is s spot (Err (NotShortest r)) e)) (any-inside s spot w)).1

taken-inside : (broken low high : ℕ) (s : List ℕ) (from : Spot) → Within s from → Inside s (λ v. (low ≤ v) × (v ≤ high)) (taken broken low high s from)
unfolding taken then_taken
taken-inside broken low high s from w = step (any_form s from) (any-inside s from w)
  where
    by : (v : ℕ) (spot : Spot) → Within s spot → (l g : Bool) → leb low v ≡ l → leb v high ≡ g →
        Inside s (λ v. (low ≤ v) × (v ≤ high)) (pick (l && g) (read v spot) (Err (refusal broken from.at)))
    by v spot w true true p q = ((leb-true low v p, leb-true v high q), w)
    by v spot w true false p q = tt
    by v spot w false true p q = tt
    by v spot w false false p q = tt

    step : (r : Step) → Inside s (λ v. Unit {0}) r →
        Inside s (λ v. (low ≤ v) × (v ≤ high)) (then_taken Err r λ v spot. pick (leb low v && leb v high) (read v spot) (Err (refusal broken from.at)))
    step (Ok t) i = by t.value t.spot i.1 (leb low t.value) (leb t.value high) refl refl
    step (Err r) i = tt

-- a number that the code took and that passed its range
pub record Passed (broken low high : ℕ) (s : List ℕ) (from : Spot) (t : Taken) : Type 0 where
  pub is : taken broken low high s from ≡ Ok t
  pub least : low ≤ t.value
  pub most : t.value ≤ high
  pub inside : Within s t.spot

pub passed : (broken low high : ℕ) (s : List ℕ) (from : Spot) (t : Taken) → Ok t ≡ taken broken low high s from → Within s from → Passed broken low high s from t
passed broken low high s from t e w =
    let i : (((low ≤ t.value) × (t.value ≤ high)) × Within s t.spot) = subst (Inside s (λ v. (low ≤ v) × (v ≤ high))) (sym e) (taken-inside broken low high s from w) in
    record { is = sym e; least = i.0.0; most = i.0.1; inside = i.1 }

-- a number and a list of the same bytes
pub along : (broken low high : ℕ) (spot : Spot) {s r : List ℕ} {step : Step} → s ≡ r → step ≡ taken broken low high s spot → taken broken low high r spot ≡ step
along broken low high spot e q = ap (λ (x : List ℕ). taken broken low high x spot) (sym e) ∙ sym q

pub list-along : (n : ℕ) (spot : Spot) {s r : List ℕ} {found : Result Listed Refusal} → s ≡ r → found ≡ parent_list n s spot → parent_list n r spot ≡ found
list-along n spot e q = ap (λ (x : List ℕ). parent_list n x spot) (sym e) ∙ sym q

-- a list of at most so many parents
pub record Few (most : ℕ) (list : Listed) : Type 0 where
  pub once : list.reordered ≤ 1
  pub fewer : list.dropped ≤ most

Bounded : (most : ℕ) → Result Listed Refusal → Type 0
Bounded most (Ok list) = Few most list
Bounded most (Err r) = Unit

reordered-once : (given : List ℕ) → reordered given ≤ 1
reordered-once given = by (ascends (firsts given) 0)
  where
    by : (b : Bool) → pick {A = ℕ} b 0 1 ≤ 1
    by true = omega arith
    by false = omega arith

weaker : (few most : ℕ) (found : Result Listed Refusal) → few ≤ most → Bounded few found → Bounded most found
unfolding Bounded
weaker few most (Ok list) h b = record { once = b.once; fewer = omega (arith, b.fewer) }
weaker few most (Err r) h b = tt

listed-bounded : (k n : ℕ) (s : List ℕ) (spot : Spot) (given : List ℕ) → Bounded (length given + k) (listed k n s spot given)
unfolding listed then_taken Bounded
listed-bounded zero n s spot given = record { once = reordered-once given; fewer = omega arith }
listed-bounded (suc k) n s spot given = step (taken bad_parent 0 (n - 1) s spot) λ p next. listed-bounded k n s next (given ++ p ∷ [])
  where
    step : (r : Step) → ((p : ℕ) (next : Spot) → Bounded (length (given ++ p ∷ []) + k) (listed k n s next (given ++ p ∷ []))) →
        Bounded (length given + suc k) (then_taken Err r λ p next. listed k n s next (given ++ p ∷ []))
    step (Ok t) again = weaker _ _ _ (omega (arith, length-append given (t.value ∷ []))) (again t.value t.spot)
    step (Err r) again = tt

pub parents-bounded : (n : ℕ) (s : List ℕ) (spot : Spot) (list : Listed) → Ok list ≡ parent_list n s spot → Within s spot → Few given_max list
unfolding parent_list then_taken Bounded
parents-bounded n s spot list e w = subst (Bounded given_max) (sym e) (step (taken bad_parent 0 given_max s spot) (taken-inside bad_parent 0 given_max s spot w))
  where
    step : (r : Step) → Inside s (λ v. (0 ≤ v) × (v ≤ given_max)) r → Bounded given_max (then_taken Err r λ k next. listed k n s next [])
    step (Ok t) i = weaker _ _ _ (omega (arith, i.0.1)) (listed-bounded t.value n s t.spot [])
    step (Err r) i = tt

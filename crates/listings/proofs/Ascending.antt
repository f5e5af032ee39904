-- A list that ascends has nothing to mend: each parent is above those before it, so none repeats another and all are first ones.
use Prim.Native.Nat.{ℕ, ◌+◌, ◌^◌, ◌≤◌, ◌<◌}
use mathlib.Core.Path.{◌≡◌, refl, ap, ◌∙◌}
use mathlib.Core.Bool.{Bool, true, false, ◌&&◌}
use mathlib.Core.List.{List, [], ◌∷◌, ◌++◌}
use native.Mathlib.Nat.{le_refl}
use native.Mathlib.Omega.{arith}
use lib.Dec.{eqb, leb}
use borrow.Author.Tests.{eqb-true, leb-true, le-leb}
use Rattle.plain.specs.Pick.{pick}
use Rattle.plain.proofs.Picks.{true-false}
use Rattle.plain.proofs.Tests.{not-held}
use Rattle.sets.specs.Inner.Put.{with_member}
use Rattle.tables.specs.Limits.{count_max}
use Rattle.listings.specs.Lists.{is_listed, list_set, without, firsts, ascends, reordered, dropped}
use Rattle.listings.specs.Inner.Listing.{past}
use Rattle.listings.proofs.Lists.{member-listed, set-behind, ascends-behind}

both : (a b : Bool) → (a && b) ≡ true → (a ≡ true) × (b ≡ true)
both true b e = (refl, e)
both false b e = absurd (true-false e refl)

-- what is listed is at least the first and below what would come next
past-above : (l : List ℕ) (low : ℕ) → ascends l low ≡ true → low ≤ past l low
unfolding ascends past
past-above [] low e = le_refl low
past-above (p ∷ l) low e = let q = both (leb low p) _ e in omega (arith, leb-true low p q.0, past-above l (p + 1) q.1)

ascends-least : (l : List ℕ) (low k : ℕ) → ascends l low ≡ true → is_listed l k ≡ true → low ≤ k
unfolding ascends is_listed
ascends-least [] low k e m = absurd (true-false m refl)
ascends-least (p ∷ l) low k e m = let q = both (leb low p) _ e in by (eqb p k) refl m (leb-true low p q.0) (ascends-least l (p + 1) k q.1)
  where
    by : (b : Bool) → eqb p k ≡ b → pick b true (is_listed l k) ≡ true → low ≤ p → (is_listed l k ≡ true → p + 1 ≤ k) → low ≤ k
    by true e m h again = let same = eqb-true p k e in omega arith
    by false e m h again = omega (arith, again m)

ascends-below : (l : List ℕ) (low k : ℕ) → ascends l low ≡ true → is_listed l k ≡ true → k < past l low
unfolding ascends is_listed past
ascends-below [] low k e m = absurd (true-false m refl)
ascends-below (p ∷ l) low k e m = let q = both (leb low p) _ e in by (eqb p k) refl m (past-above l (p + 1) q.1) (ascends-below l (p + 1) k q.1)
  where
    by : (b : Bool) → eqb p k ≡ b → pick b true (is_listed l k) ≡ true → p + 1 ≤ past l (p + 1) → (is_listed l k ≡ true → k < past l (p + 1)) → k < past l (p + 1)
    by true e m h again = let same = eqb-true p k e in omega arith
    by false e m h again = again m

-- leaving out what is not listed
without-none : (l : List ℕ) (p : ℕ) → is_listed l p ≡ false → without l p ≡ l
unfolding is_listed without
without-none [] p n = refl
without-none (q ∷ l) p n = by (eqb q p) n (without-none l p)
  where
    by : (b : Bool) → pick b true (is_listed l p) ≡ false → (is_listed l p ≡ false → without l p ≡ l) → pick b (without l p) (q ∷ without l p) ≡ q ∷ l
    by true n again = absurd (true-false refl n)
    by false n again = ap (◌∷◌ q) (again n)

ascends-firsts : (l : List ℕ) (low : ℕ) → ascends l low ≡ true → firsts l ≡ l
unfolding ascends firsts
ascends-firsts [] low e = refl
ascends-firsts (p ∷ l) low e =
    let q = (both (leb low p) _ e).1 in
    ap (◌∷◌ p) (ap (λ (m : List ℕ). without m p) (ascends-firsts l (p + 1) q) ∙ without-none l p (not-held (is_listed l p) λ m. omega (arith, ascends-least l (p + 1) p q m)))

-- nothing to mend
pub ascends-tidy : (l : List ℕ) → ascends l 0 ≡ true → (reordered l ≡ 0) × (dropped l ≡ 0)
ascends-tidy l e = let f = ascends-firsts l 0 e in rw f (rw e, omega arith)

-- a parent more, at least as great as what would come next
module _ (l : List ℕ) (v : ℕ) (e : ascends l 0 ≡ true) (h : past l 0 ≤ v) where
  pub ascends-more : ascends (l ++ v ∷ []) 0 ≡ true
  ascends-more = ascends-behind l v 0 ∙ rw (e, le-leb (past l 0) v h)

  pub set_more : v < count_max → list_set (l ++ v ∷ []) ≡ list_set l + 2 ^ v
  unfolding with_member
  set_more b = set-behind l v b ∙ rw (member-listed l v b, not-held (is_listed l v) λ m. omega (arith, ascends-below l 0 v e m))

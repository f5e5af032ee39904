-- A parent more. It is listed from then on; where it was before, it is no first one, and where it was not, it comes after the first ones so far.
use Prim.Native.Nat.{ℕ, suc, ◌+◌, ◌^◌, ◌≤◌, ◌<◌, suc-le-suc}
use mathlib.Core.Path.{◌≡◌, refl, sym, ap, ◌∙◌}
use mathlib.Core.Logic.{⊎_elim}
use mathlib.Core.Bool.{Bool, true, false, ◌&&◌, and-false, and-true}
use mathlib.Core.List.{List, [], ◌∷◌, ◌++◌, append-nil}
use native.Mathlib.Omega.{arith}
use lib.ListN.{length, length-append}
use lib.Bits.{bit_or}
use lib.Dec.{eqb, leb, ltb}
use borrow.Author.Tests.{eqb-true, eqb-false, le-leb, lt-leb, le-ltb, lt-ltb}
use Rattle.plain.specs.Pick.{pick, one}
use Rattle.plain.proofs.Lists.{lt-or-ge}
use Rattle.sets.specs.Member.{bit, is_member}
use Rattle.sets.specs.Inner.Put.{with_member}
use Rattle.sets.proofs.Bits.{bit-zero, same_bits, put_same, put_other, with-or}
use Rattle.sets.proofs.Rule.{bit-set, bit_past}
use Rattle.tables.specs.Limits.{count_max}
use Rattle.listings.specs.Lists.{is_listed, list_set, without, firsts, ascends, reordered, dropped}
use Rattle.listings.specs.Inner.Listing.{past, listing_of}

pick_true : (b : Bool) → pick b true true ≡ true
pick_true true = refl
pick_true false = refl

pick-false : (b : Bool) → pick b true false ≡ b
pick-false true = refl
pick-false false = refl

-- what is listed with p behind
pub listed-behind : (l : List ℕ) (p k : ℕ) → is_listed (l ++ p ∷ []) k ≡ pick (is_listed l k) true (eqb p k)
unfolding is_listed
listed-behind [] p k = pick-false (eqb p k)
listed-behind (q ∷ l) p k = by (eqb q k) (listed-behind l p k)
  where
    by : (b : Bool) → is_listed (l ++ p ∷ []) k ≡ pick (is_listed l k) true (eqb p k) → pick b true (is_listed (l ++ p ∷ []) k) ≡ pick (pick b true (is_listed l k)) true (eqb p k)
    by true e = refl
    by false e = e

-- leaving out
without-append : (l r : List ℕ) (p : ℕ) → without (l ++ r) p ≡ without l p ++ without r p
unfolding without
without-append [] r p = refl
without-append (q ∷ l) r p = by (eqb q p) (without-append l r p)
  where
    by : (b : Bool) → without (l ++ r) p ≡ without l p ++ without r p → pick b (without (l ++ r) p) (q ∷ without (l ++ r) p) ≡ pick b (without l p) (q ∷ without l p) ++ without r p
    by true e = e
    by false e = ap (λ (m : List ℕ). q ∷ m) e

without_fewer : (l : List ℕ) (p : ℕ) → length (without l p) ≤ length l
unfolding without
without_fewer [] p = omega arith
without_fewer (q ∷ l) p = by (eqb q p) (without_fewer l p)
  where
    by : (b : Bool) → length (without l p) ≤ length l → length (pick b (without l p) (q ∷ without l p)) ≤ suc (length l)
    by true h = omega arith
    by false h = suc-le-suc h

-- the first ones are no more than all, and with p behind they are those before and p where it is new
firsts-fewer : (l : List ℕ) → length (firsts l) ≤ length l
unfolding firsts
firsts-fewer [] = omega arith
firsts-fewer (p ∷ l) = omega (arith, without_fewer (firsts l) p, firsts-fewer l)

eqb-sym : (p q : ℕ) → eqb p q ≡ eqb q p
eqb-sym p q = by (eqb p q) (eqb q p) refl refl
  where
    by : (a b : Bool) → eqb p q ≡ a → eqb q p ≡ b → a ≡ b
    by true true d e = refl
    by false false d e = refl
    by true false d e = absurd (eqb-false q p e (sym (eqb-true p q d)))
    by false true d e = absurd (eqb-false p q d (sym (eqb-true q p e)))

firsts-behind : (l : List ℕ) (p : ℕ) → firsts (l ++ p ∷ []) ≡ firsts l ++ pick (is_listed l p) [] (p ∷ [])
unfolding firsts is_listed without
firsts-behind [] p = refl
firsts-behind (q ∷ l) p = ap (λ (m : List ℕ). q ∷ without m q) (firsts-behind l p) ∙ ap (◌∷◌ q) (without-append (firsts l) _ q ∙ ap (◌++◌ (without (firsts l) q)) (by (is_listed l p) (eqb q p) refl))
  where
    by : (b e : Bool) → eqb q p ≡ e → without (pick b [] (p ∷ [])) q ≡ pick (pick e true b) [] (p ∷ [])
    by true true d = refl
    by true false d = refl
    by false true d = rw (eqb-sym p q, d)
    by false false d = rw (eqb-sym p q, d)

-- ascending with p behind
pub past-behind : (l : List ℕ) (p low : ℕ) → past (l ++ p ∷ []) low ≡ p + 1
unfolding past
past-behind [] p low = refl
past-behind (q ∷ l) p low = past-behind l p (q + 1)

pub ascends-behind : (l : List ℕ) (p low : ℕ) → ascends (l ++ p ∷ []) low ≡ (ascends l low && leb (past l low) p)
unfolding ascends past
ascends-behind [] p low = by (leb low p)
  where
    by : (b : Bool) → (b && true) ≡ (true && b)
    by true = refl
    by false = refl
ascends-behind (q ∷ l) p low = ap (◌&&◌ (leb low q)) (ascends-behind l p (q + 1)) ∙ by (leb low q) (ascends l (q + 1)) (leb (past l (q + 1)) p)
  where
    by : (a b c : Bool) → (a && (b && c)) ≡ ((a && b) && c)
    by true b c = refl
    by false b c = refl

-- the set of a list: its digits, and with p behind
pub one-le : (b : Bool) → one b ≤ 1
one-le true = omega arith
one-le false = omega arith

bit-listed : (l : List ℕ) (k : ℕ) → k < count_max → bit k (list_set l) ≡ one (is_listed l k)
bit-listed l k h = bit-set (λ k. one (is_listed l k)) (λ k. one-le (is_listed l k)) count_max k h

pub member-listed : (l : List ℕ) (k : ℕ) → k < count_max → is_member k (list_set l) ≡ is_listed l k
member-listed l k h = ap (λ (b : ℕ). eqb b 1) (bit-listed l k h) ∙ by (is_listed l k)
  where
    by : (b : Bool) → eqb (one b) 1 ≡ b
    by true = refl
    by false = refl

pub set-behind : (l : List ℕ) (p : ℕ) → p < count_max → list_set (l ++ p ∷ []) ≡ with_member p (list_set l)
set-behind l p h = same_bits _ _ digit ∙ sym (with-or p (list_set l))
  where
    by : (k : ℕ) → k < count_max → (e : Bool) → eqb p k ≡ e → one (pick (is_listed l k) true e) ≡ bit k (bit_or (list_set l) (2 ^ p))
    by k h true d = ap one (pick_true (is_listed l k)) ∙ sym (rw (← (eqb-true p k d)) (put_same (list_set l) p))
    by k h false d = ap one (pick-false (is_listed l k)) ∙ sym (bit-listed l k h) ∙ sym (put_other (list_set l) p k (λ q. eqb-false p k d (sym q)))

    digit : (k : ℕ) → bit k (list_set (l ++ p ∷ [])) ≡ bit k (bit_or (list_set l) (2 ^ p))
    digit k = ⊎_elim
        (λ (b : k < count_max). bit-listed (l ++ p ∷ []) k b ∙ ap one (listed-behind l p k) ∙ by k b (eqb p k) refl)
        (λ (b : count_max ≤ k). bit_past _ (λ k. one-le (is_listed (l ++ p ∷ []) k)) count_max k b ∙ sym (bit_past _ (λ k. one-le (is_listed l k)) count_max k b)
        ∙ sym (put_other (list_set l) p k (λ e. omega arith)))
        (lt-or-ge k count_max)

-- what is known of a list after one that is there already, and after a new one
module _ (given : List ℕ) (p padded : ℕ) where
  pub met-again : is_listed given p ≡ true → p < count_max → listing_of padded (given ++ p ∷ []) ≡
      record { set = list_set given; low = past (firsts given) 0; reordered = reordered given; dropped = dropped given + 1; padded = padded }
  unfolding with_member
  met-again e h =
      let same : firsts (given ++ p ∷ []) ≡ firsts given = firsts-behind given p ∙ rw e (append-nil (firsts given)) in
      let more : dropped (given ++ p ∷ []) ≡ dropped given + 1 = rw same (omega (arith, length-append given (p ∷ []), firsts-fewer given)) in
      let there : with_member p (list_set given) ≡ list_set given = rw (member-listed given p h, e) in
      λ i. record {
        set = (set-behind given p h ∙ there) i;
        low = past (same i) 0;
        reordered = pick (ascends (same i) 0) 0 1;
        dropped = more i;
        padded = padded;
      }

  pub met-new : is_listed given p ≡ false → p < count_max → listing_of padded (given ++ p ∷ []) ≡
      record { set = with_member p (list_set given); low = p + 1; reordered = pick (ltb p (past (firsts given) 0)) 1 (reordered given); dropped = dropped given; padded = padded }
  met-new e h =
      let more : firsts (given ++ p ∷ []) ≡ firsts given ++ p ∷ [] = firsts-behind given p ∙ rw e in
      let kept : dropped (given ++ p ∷ []) ≡ dropped given = rw more (omega (arith, length-append given (p ∷ []), length-append (firsts given) (p ∷ []))) in
      let order : reordered (given ++ p ∷ []) ≡ pick (ltb p (past (firsts given) 0)) 1 (reordered given) = ap (λ (l : List ℕ). pick {A = ℕ} (ascends l 0) 0 1) more ∙ ap (λ (b : Bool). pick {A = ℕ} b 0 1) (ascends-behind (firsts given) p 0) ∙ by (past (firsts given) 0) (ascends (firsts given) 0) in
      λ i. record { set = set-behind given p h i; low = (ap (λ (l : List ℕ). past l 0) more ∙ past-behind (firsts given) p 0) i; reordered = order i; dropped = kept i; padded = padded }
    where
      by : (low : ℕ) (b : Bool) → pick {A = ℕ} (b && leb low p) 0 1 ≡ pick (ltb p low) 1 (pick b 0 1)
      by low b = ⊎_elim
          (λ (l : p < low). simp (lt-leb low p l, lt-ltb p low l, and-false))
          (λ (l : low ≤ p). rw (le-leb low p l, le-ltb p low l, and-true b))
          (lt-or-ge p low)

-- before the first
pub met-none : (padded : ℕ) → listing_of padded [] ≡ record { set = 0; low = 0; reordered = 0; dropped = 0; padded = padded }
unfolding is_listed firsts ascends past
met-none padded = ap (λ (s : ℕ). record { set = s; low = 0; reordered = 0; dropped = 0; padded = padded }) (same_bits (list_set []) 0 digit)
  where
    digit : (k : ℕ) → bit k (list_set []) ≡ bit k 0
    digit k = ⊎_elim (λ (b : k < count_max). bit-listed [] k b) (λ (b : count_max ≤ k). bit_past _ (λ k. one-le false) count_max k b) (lt-or-ge k count_max) ∙ sym (bit-zero k)

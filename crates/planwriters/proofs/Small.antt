-- Values are small where each is, wherever it stands: the test asks every place of the list, so the order of the values is nothing to it.
use Prim.Native.Nat.{ℕ, zero, suc, ◌+◌, ◌-◌, ◌≤◌, ◌<◌}
use mathlib.Core.Path.{◌≡◌, refl, sym}
use mathlib.Core.Logic.{⊎_elim}
use mathlib.Core.Bool.{Bool, true, false}
use mathlib.Core.List.{List, ◌∷◌, ◌++◌}
use native.Mathlib.Omega.{arith}
use lib.ListN.{length, get_or-eq_default, get_or-append}
use lib.Seq.{get_or-append-add}
use lib.Dec.{ltb}
use borrow.Author.Tests.{lt-ltb, le-ltb, ltb-true}
use Rattle.plain.specs.At.{at}
use Rattle.plain.proofs.Lists.{lt-or-ge}
use Rattle.plain.proofs.Picks.{true-false}
use Rattle.plain.proofs.Tests.{not-held, all_to-true, true-all_to, all_to-false}
use Rattle.std.specs.Prelude.{◌↔◌, IsTrue, EachIndex}
use Rattle.planwriters.specs.Writing.{value_limit, are_small}
use Rattle.planwriters.specs.Inner.Fits.{Small}

-- the test says that they are
pub small-values : (values : List ℕ) → are_small values ≡ true → Small values
unfolding are_small
small-values values e = record {
  each = λ k. ⊎_elim
      (λ (h : k < length values). ltb-true _ _ (all_to-true (length values) (λ j. ltb (at values j) value_limit) e k h))
      (λ (h : length values ≤ k). rw (get_or-eq_default values 0 h) (omega arith))
      (lt-or-ge k (length values));
}

-- and holds where they are, so far as the list goes
pub values-small : (values : List ℕ) → ((k : ℕ) → k < length values → at values k < value_limit) → are_small values ≡ true
unfolding are_small
values-small values s = true-all_to (length values) (λ k. ltb (at values k) value_limit) λ k h. lt-ltb _ _ (s k h)

-- one that is not makes it fail
pub value-big : (values : List ℕ) (k : ℕ) → k < length values → value_limit ≤ at values k → are_small values ≡ false
unfolding are_small
value-big values k h l = all_to-false (length values) (λ j. ltb (at values j) value_limit) k h (le-ltb _ _ l)

-- a test that asks each place is this one
pub small-told : (values : List ℕ) (b : Bool) → (IsTrue b ↔ EachIndex values (λ k. at values k < value_limit)) → b ≡ are_small values
small-told values true told = sym (values-small values (told.0 refl))
small-told values false told = sym (not-held (are_small values) λ e. true-false (told.1 λ k h. (small-values values e).each k) refl)

-- a value before others
pub small-before : {v : ℕ} {vs : List ℕ} → v < value_limit → Small vs → Small (v ∷ vs)
small-before {v} {vs} h s = record { each = at_each }
  where
    at_each : (k : ℕ) → at (v ∷ vs) k < value_limit
    at_each zero = h
    at_each (suc k) = s.each k

pub small-behind : {v : ℕ} {vs : List ℕ} → Small (v ∷ vs) → Small vs
small-behind s = record { each = λ k. s.each (suc k) }

-- two lists of them, one after the other
pub small-append : {vs ws : List ℕ} → Small vs → Small ws → Small (vs ++ ws)
small-append {vs} {ws} s t = record {
  each = λ k. ⊎_elim
      (λ (h : k < length vs). rw (get_or-append vs ws 0 k h) (s.each k))
      (λ (h : length vs ≤ k). let e : length vs + (k - length vs) ≡ k = omega arith in rw (← e, get_or-append-add vs ws (k - length vs) 0) (t.each (k - length vs)))
      (lt-or-ge k (length vs));
}

module _ (vs ws : List ℕ) (s : Small (vs ++ ws)) where
  pub small-first : Small vs
  small-first = record {
    each = λ k. ⊎_elim
        (λ (h : k < length vs). rw (get_or-append vs ws 0 k h) at (s.each k))
        (λ (h : length vs ≤ k). rw (get_or-eq_default vs 0 h) (omega arith))
        (lt-or-ge k (length vs));
  }

  pub small-second : Small ws
  small-second = record { each = λ k. rw (get_or-append-add vs ws k 0) at (s.each (length vs + k)) }

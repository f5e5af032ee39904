-- The test and the statements say the same: no execution is above the greatest, and the greatest is one of them.
use mathlib.Core.Path.{◌≡◌, refl, sym, ◌∙◌}
use mathlib.Core.Logic.{◌⊎◌, inl, inr, ⊎_elim}
use mathlib.Core.Bool.{Bool, true, false}
use mathlib.Core.List.{List}
use Prim.Native.Nat.{ℕ, ◌≤◌, ◌<◌}
use native.Mathlib.Omega.{arith}
use borrow.Author.Tests.{eqb-true, eqb-false, eq-eqb, ne_eqb}
use lib.ListN.{length, take}
use Rattle.std.proofs.Common.{All}
use Rattle.std.proofs.lemmas.List.{get_or-take, length-take-le}
use Rattle.std.proofs.lemmas.List.Elements.{All-get_or, All-from_get_or}
use Rattle.plain.specs.At.{at}
use Rattle.plain.specs.Sums.{max_to}
use Rattle.plain.proofs.Lists.{lt-or-ge}
use Rattle.plain.proofs.Picks.{true-false}
use Rattle.plain.proofs.Sums.{max_to-le, le-max_to, max_to-is}
use Rattle.tables.specs.Runs.{all_zero}

module _ (X : List ℕ) (n : ℕ) where
  -- it holds where all are 0, and only there
  pub zero-all : ((v : ℕ) → v < n → at X v ≡ 0) → all_zero X n ≡ true
  unfolding all_zero
  zero-all z = let m = max_to-le n 0 (at X) (λ v h. let e = z v h in omega arith) in eq-eqb (max_to n (at X)) 0 (omega arith)

  pub all-zero : all_zero X n ≡ true → (v : ℕ) → v < n → at X v ≡ 0
  unfolding all_zero
  all-zero e v h = let z = eqb-true (max_to n (at X)) 0 e in let m = le-max_to n (at X) v h in omega arith

  -- it fails where some is above 0, and only there
  pub runs-some : (v : ℕ) → v < n → 1 ≤ at X v → all_zero X n ≡ false
  unfolding all_zero
  runs-some v h r = ne_eqb (max_to n (at X)) 0 λ (z : max_to n (at X) ≡ 0). let m = le-max_to n (at X) v h in omega arith

  pub some_runs : all_zero X n ≡ false → (v : ℕ) × (v < n) × (1 ≤ at X v)
  unfolding all_zero
  some_runs e = let some = eqb-false (max_to n (at X)) 0 e in ⊎_elim
      (λ z. absurd (some z))
      (λ (k, h, q). (k, h, ⊎_elim (λ (l : 0 < at X k). l) (λ (l : at X k ≤ 0). absurd (some (omega arith))) (lt-or-ge 0 (at X k))))
      (max_to-is n (at X))

  -- the first n as a list
  front : n ≤ length X → All (λ x. x ≡ 0) (take n X) → (v : ℕ) → v < n → at X v ≡ 0
  front h all v l = sym (get_or-take n X v 0 l) ∙ All-get_or (λ x. x ≡ 0) (take n X) v 0 (rw (length-take-le n X h) l) all

  in-front : n ≤ length X → ((v : ℕ) → v < n → at X v ≡ 0) → All (λ x. x ≡ 0) (take n X)
  in-front h z = All-from_get_or (λ x. x ≡ 0) (take n X) 0 (λ v l. let k : v < n = rw (length-take-le n X h) at l in get_or-take n X v 0 k ∙ z v k)

  told-or-not : (b : Bool) → (b ≡ true) ⊎ (b ≡ false)
  told-or-not true = inl refl
  told-or-not false = inr refl

  -- a test of that list tells the same
  pub front-zero : (b : Bool) → n ≤ length X → (b ≡ true → All (λ x. x ≡ 0) (take n X)) → (All (λ x. x ≡ 0) (take n X) → b ≡ true) → b ≡ all_zero X n
  front-zero true h told back = sym (zero-all (front h (told refl)))
  front-zero false h told back = ⊎_elim (λ e. absurd (true-false (back (in-front h (all-zero e))) refl)) sym (told-or-not (all_zero X n))

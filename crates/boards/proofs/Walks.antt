-- What a walk over a list comes to, by index: a test of each element, a sum and a greatest value all grow by one element at a time, as the definitions by index do.
use Rattle.std.proofs.Common.{◌≡◌, refl, sym, ap, ◌∙◌, Bool, true, false, ◌&&◌, List, ℕ, zero, suc, ◌+◌, ◌≤◌, length, get_or, take, arith, max}
use Rattle.std.specs.List.{list_all, sum_by, fold}
use Rattle.std.proofs.lemmas.List.{take_all}
use Rattle.std.proofs.lemmas.List.Folds.{list_all_more}
use Rattle.std.proofs.lemmas.List.Sums.{sum_by_more, fold_more}
use native.Mathlib.Numerals.{add-one}
use Rattle.plain.specs.Tests.{both, all_to}
use Rattle.plain.specs.Sums.{sum_to, max_to}

and-both : (a b : Bool) → (a && b) ≡ both a b
and-both true b = refl
and-both false b = refl

module _ {X : Type 0} (xs : List X) (d : X) where
  -- the first n of them
  pub all-part : (p : X → Bool) (n : ℕ) → n ≤ length xs → list_all p (take n xs) ≡ all_to n (λ k. p (get_or xs k d))
  unfolding all_to
  all-part p zero h = refl
  all-part p (suc n) h =
      let ih = all-part p n (omega arith) in
      let more : list_all p (take (suc n) xs) ≡ (list_all p (take n xs) && p (get_or xs n d)) = rw add-one at (list_all_more p xs n d (omega arith)) in
      more ∙ and-both (list_all p (take n xs)) (p (get_or xs n d)) ∙ ap (λ (b : Bool). both b (p (get_or xs n d))) ih

  sum-part : (f : X → ℕ) (n : ℕ) → n ≤ length xs → sum_by f (take n xs) ≡ sum_to n (λ k. f (get_or xs k d))
  unfolding sum_to
  sum-part f zero h = refl
  sum-part f (suc n) h =
      let ih = sum-part f n (omega arith) in
      let more : sum_by f (take (suc n) xs) ≡ sum_by f (take n xs) + f (get_or xs n d) = rw add-one at (sum_by_more f xs n d (omega arith)) in
      more ∙ ap (λ (s : ℕ). s + f (get_or xs n d)) ih

  max-part : (f : X → ℕ) (n : ℕ) → n ≤ length xs → fold (λ a x. max a (f x)) 0 (take n xs) ≡ max_to n (λ k. f (get_or xs k d))
  unfolding max_to
  max-part f zero h = refl
  max-part f (suc n) h =
      let ih = max-part f n (omega arith) in
      let more : fold (λ a x. max a (f x)) 0 (take (suc n) xs) ≡ max (fold (λ a x. max a (f x)) 0 (take n xs)) (f (get_or xs n d)) = rw add-one at (fold_more (λ a x. max a (f x)) 0 xs n d (omega arith)) in
      more ∙ ap (λ (m : ℕ). max m (f (get_or xs n d))) ih

  -- all of them
  pub all-walked : (p : X → Bool) (n : ℕ) → length xs ≡ n → list_all p xs ≡ all_to n (λ k. p (get_or xs k d))
  all-walked p n e = ap (list_all p) (sym (take_all n xs (omega arith))) ∙ all-part p n (omega arith)

  pub sum-walked : (f : X → ℕ) (n : ℕ) → length xs ≡ n → sum_by f xs ≡ sum_to n (λ k. f (get_or xs k d))
  sum-walked f n e = ap (sum_by f) (sym (take_all n xs (omega arith))) ∙ sum-part f n (omega arith)

  pub max-walked : (f : X → ℕ) (n : ℕ) → length xs ≡ n → fold (λ a x. max a (f x)) 0 xs ≡ max_to n (λ k. f (get_or xs k d))
  max-walked f n e = ap (fold (λ a x. max a (f x)) 0) (sym (take_all n xs (omega arith))) ∙ max-part f n (omega arith)

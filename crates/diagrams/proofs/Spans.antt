-- What the numbers of the cuts are for: the segments that end by cut k are the first k, so D at a node's start or finish is the sum over the
-- segments before the cut with its number.
use mathlib.Core.Path.{◌≡◌, refl, sym, ap, ◌∙◌}
use mathlib.Core.List.{List}
use Prim.Native.Nat.{ℕ, suc, ◌*◌, ◌≤◌, ◌<◌}
use native.Mathlib.Nat.{le_refl}
use native.Mathlib.Decide.{le_ind}
use native.Mathlib.Omega.{arith}
use Rattle.plain.specs.At.{at}
use Rattle.plain.specs.Pick.{up_to}
use Rattle.plain.specs.Sums.{sum_to}
use Rattle.plain.proofs.Sums.{sum_same}
use Rattle.segments.specs.Cut.{cut, segments}
use Rattle.segments.specs.Inner.By.{by}
use Rattle.plain.proofs.Flags.{up_to-yes, up_to-no, times-one, times_zero}
use Rattle.segments.proofs.Cuts.{cut-mono}
use Rattle.segments.proofs.Segments.{segment-up}
use Rattle.diagrams.specs.Inner.Traced.{Spanned}

-- terms that are 0 from k on
sum-front : (k s : ℕ) (g : ℕ → ℕ) → k ≤ s → ((j : ℕ) → k ≤ j → j < s → g j ≡ 0) → sum_to s g ≡ sum_to k g
unfolding sum_to
sum-front k s g h z = le_ind (λ (m : ℕ). m ≤ s → sum_to m g ≡ sum_to k g) (λ a. refl) (λ m l ih a. let b = ih (omega arith) in let d = z m l a in omega arith) s h (le_refl s)

module _ (n : ℕ) (F f : ℕ → ℕ) where
  -- D at cut k
  pub by-cut : (k : ℕ) → k ≤ segments n F → by n F f (cut n F k) ≡ sum_to k f
  unfolding by
  by-cut k h =
      sum-front k (segments n F) term h (λ j a b. times_zero (f j) (up_to-no (let u = segment-up n F j b in let m = cut-mono n F k j a in omega arith)))
      ∙ sum_same k term f (λ j a. times-one (f j) (up_to-yes (cut-mono n F (suc j) k a)))
    where
      term : ℕ → ℕ
      term j = up_to (cut n F (suc j)) (cut n F k) * f j

module _ {n : ℕ} {S F : ℕ → ℕ} {first last : List ℕ} (w : Spanned n S F first last) (f : ℕ → ℕ) (v : ℕ) (h : v < n) where
  -- at a node's start and at its finish
  pub by-start : by n F f (S v) ≡ sum_to (at first v) f
  by-start = let a = w.first v h in ap (by n F f) (sym a.1) ∙ by-cut n F f (at first v) a.0

  pub by-finish : by n F f (F v) ≡ sum_to (at last v) f
  by-finish = let a = w.last v h in ap (by n F f) (sym a.1) ∙ by-cut n F f (at last v) a.0

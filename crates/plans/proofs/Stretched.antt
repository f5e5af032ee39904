-- Stretched time: with D(t) what the segments that end by t are given, a node's deadline is D(finish) - D(start), and its offset is D(start).
-- D is monotone and D(0) is 0, so the greatest D(finish) of the parents is D of their greatest finish, which is D(start): offset plus deadline,
-- D(finish), obeys the rule of longest ways over the deadlines, and nothing else does.
use mathlib.Core.Path.{◌≡◌, sym, ap, ◌∙◌}
use mathlib.Core.Logic.{⊎_elim}
use mathlib.Core.List.{List}
use Prim.Native.Nat.{ℕ, zero, suc, ◌≤◌, ◌<◌, max}
use native.Mathlib.Nat.{max-zero}
use native.Mathlib.Omega.{arith}
use Rattle.plain.specs.At.{at, tab}
use Rattle.plain.proofs.Lists.{at-tab, lt-or-ge}
use Rattle.sets.specs.Member.{bit}
use Rattle.sets.specs.Greatest.{kept, greatest}
use Rattle.ways.specs.Reaches.{Reaches}
use Rattle.ways.specs.Inner.Tidy.{Tidy}
use Rattle.ways.specs.Ways.{begins, ends, end_by}
use Rattle.ways.proofs.Ways.{at-begins, only-rule, ends-begins}
use Rattle.segments.specs.Share.{share}
use Rattle.segments.specs.Inner.By.{by}
use Rattle.segments.proofs.Shares.{by-mono, by_zero, share-by}
use Rattle.diagrams.proofs.Diagram.{diagram}

-- a monotone g with g 0 = 0 goes through the greatest over a set
greatest-through : (d s : ℕ) (f g : ℕ → ℕ) → g 0 ≡ 0 → ((x y : ℕ) → x ≤ y → g x ≤ g y) → greatest d s (λ k. g (f k)) ≡ g (greatest d s f)
unfolding greatest
greatest-through zero s f g z up = sym z
greatest-through (suc d) s f g z up =
    ap (λ (x : ℕ). max x (kept (bit d s) (g (f d)))) (greatest-through d s f g z up) ∙ last (bit d s)
  where
    joined : (x y : ℕ) → max (g x) (g y) ≡ g (max x y)
    joined x y = ⊎_elim
        (λ (h : x < y). let e : max x y ≡ y = omega arith in rw e (let u = up x y (omega arith) in omega arith))
        (λ (h : y ≤ x). let e : max x y ≡ x = omega arith in rw e (let u = up y x h in omega arith))
        (lt-or-ge x y)

    last : (b : ℕ) → max (g (greatest d s f)) (kept b (g (f d))) ≡ g (max (greatest d s f) (kept b (f d)))
    last zero = max-zero (g (greatest d s f)) ∙ ap g (sym (max-zero (greatest d s f)))
    last (suc b) = joined (greatest d s f) (f d)

module _ (P X : List ℕ) (n : ℕ) (ok : Tidy P n) (free : (v : ℕ) → Reaches P v v → ⊥) where
  abbrev S : ℕ → ℕ
  S = at (begins P X n)

  abbrev F : ℕ → ℕ
  F = at (ends P X n)

  -- W: the nodes' deadlines, where segment j is given f j
  module _ (f : ℕ → ℕ) where
    abbrev W : List ℕ
    W = tab n (share n S F f)

    -- offset plus deadline is D(finish)
    pub ends-stretched : (v : ℕ) → v < n → at (ends P W n) v ≡ by n F f (F v)
    ends-stretched = only-rule P W n ok free (λ v. by n F f (F v)) obeys
      where
        obeys : (v : ℕ) → v < n → by n F f (F v) ≡ end_by P W n (λ p. by n F f (F p)) v
        obeys v h =
            let a = share-by (diagram P X n ok free) f v h in
            let b = greatest-through n (at P v) F (by n F f) (by_zero n F f) (by-mono n F f) in
            let c = ap (by n F f) (at-begins P X n v h) in
            let d = at-tab n (share n S F f) v h in
            omega arith

    -- the offset is D(start)
    pub offset-stretched : (v : ℕ) → v < n → at (begins P W n) v ≡ by n F f (S v)
    offset-stretched v h =
        let a = ends-stretched v h in
        let b = ends-begins P W n ok free v h in
        let c = at-tab n (share n S F f) v h in
        let d = share-by (diagram P X n ok free) f v h in
        omega arith

-- The edges inside a set: one of them is an edge with both ends in the set, because the digit of each row is the least of three. So a way inside
-- a set is a way, also inside any larger set, and inside the set of all nodes every way is.
use mathlib.Core.Path.{◌≡◌, refl, ap, ◌∙◌}
use mathlib.Core.Logic.{⊎_elim}
use mathlib.Core.Bool.{Bool, true, false}
use mathlib.Core.List.{List}
use Prim.Native.Nat.{ℕ, ◌≤◌, ◌<◌}
use native.Mathlib.Nat.{le_refl}
use native.Mathlib.Omega.{arith}
use lib.Pow.{pow_pos}
use Rattle.plain.specs.At.{at}
use Rattle.plain.proofs.Lists.{lt-or-ge, at-tab, at-tab-past}
use Rattle.sets.specs.Member.{bit, Member}
use Rattle.sets.specs.Rule.{set_of}
use Rattle.sets.proofs.Bits.{bit_le}
use Rattle.sets.proofs.Rule.{bit-set, set-lt}
use Rattle.ways.specs.Reaches.{Reaches, edge, more}
use Rattle.ways.specs.Inner.Tidy.{Tidy}
use Rattle.ways.specs.Closure.{goes_round}
use Rattle.ways.proofs.Reaches.{parent-lt, child-lt}
use Rattle.ways.proofs.Closure.{round-yes, round-true, round-no, round-false}
use Rattle.rings.specs.Inside.{EdgeIn, ReachesIn, edge_digit, inside}
use Rattle.rings.specs.Inside.ReachesIn.{edge as edge-inside, more as more-inside}

-- a way stays one where every edge does
reaches-on : {P Q : List ℕ} → ((v p : ℕ) → Member p (at P v) → Member p (at Q v)) → {v q : ℕ} → Reaches P v q → Reaches Q v q
reaches-on f (edge {v} {p} e) = edge (f v p e)
reaches-on f (more {v} {p} e w) = more (f v p e) (reaches-on f w)

module _ (P : List ℕ) (n S : ℕ) where
  flag : (v p : ℕ) → edge_digit P S v p ≤ 1
  flag v p = let a = bit_le v S in omega arith

  -- a row; past n there is none
  row : (v : ℕ) → v < n → at (inside P n S) v ≡ set_of n (edge_digit P S v)
  unfolding inside
  row v l = at-tab n (λ v. set_of n (edge_digit P S v)) v l

  none : (v : ℕ) → n ≤ v → at (inside P n S) v ≡ 0
  unfolding inside
  none v h = at-tab-past n (λ v. set_of n (edge_digit P S v)) v h

  pub inside-tidy : Tidy (inside P n S) n
  inside-tidy = record {
    past = none;
    word = λ v. ⊎_elim (λ (l : v < n). rw (row v l) (set-lt (edge_digit P S v) (flag v) n)) (λ (h : n ≤ v). rw (none v h) (pow_pos n)) (lt-or-ge v n);
  }

  digit : (v p : ℕ) → v < n → p < n → bit p (at (inside P n S) v) ≡ edge_digit P S v p
  digit v p l h = ap (bit p) (row v l) ∙ bit-set (edge_digit P S v) (flag v) n p h

  -- the edges are those with both ends in the set
  pub edge_in : {v p : ℕ} → Member p (at (inside P n S) v) → EdgeIn P S v p
  edge_in {v} {p} m =
      let e = digit v p (child-lt (inside P n S) n inside-tidy v p m) (parent-lt (inside P n S) n inside-tidy v p m) in
      let a = bit_le v S in
      let b = bit_le p S in
      let c = bit_le p (at P v) in
      record { child = omega arith; parent = omega arith; edge = omega arith }

  pub in-edge : Tidy P n → {v p : ℕ} → EdgeIn P S v p → Member p (at (inside P n S) v)
  in-edge ok {v} {p} e =
      let d = digit v p (child-lt P n ok v p e.edge) (parent-lt P n ok v p e.edge) in
      omega (arith, d, e.child, e.parent, e.edge)

  -- and the ways are those over such edges
  pub way_in : {v q : ℕ} → Reaches (inside P n S) v q → ReachesIn P S v q
  way_in (edge e) = edge-inside (edge_in e)
  way_in (more e w) = more-inside (edge_in e) (way_in w)

  pub in-way : Tidy P n → {v q : ℕ} → ReachesIn P S v q → Reaches (inside P n S) v q
  in-way ok (edge-inside e) = edge (in-edge ok e)
  in-way ok (more-inside e w) = more (in-edge ok e) (in-way ok w)

module _ {P : List ℕ} {n : ℕ} (ok : Tidy P n) where
  -- into a larger set, and out of any
  pub inside-wider : (S T : ℕ) → ((k : ℕ) → Member k S → Member k T) → {v q : ℕ} → Reaches (inside P n S) v q → Reaches (inside P n T) v q
  inside-wider S T sub = reaches-on (λ v p m. let e = edge_in P n S m in in-edge P n T ok (record { child = sub v e.child; parent = sub p e.parent; edge = e.edge }))

  inside-out : (S : ℕ) {v q : ℕ} → Reaches (inside P n S) v q → Reaches P v q
  inside-out S = reaches-on (λ v p m. (edge_in P n S m).edge)

  -- and into the set of all
  pub inside-all : {v q : ℕ} → Reaches P v q → Reaches (inside P n (set_of n (λ k. 1))) v q
  inside-all = reaches-on (λ v p m. in-edge P n (set_of n (λ k. 1)) ok (record { child = all v (child-lt P n ok v p m); parent = all p (parent-lt P n ok v p m); edge = m }))
    where
      all : (k : ℕ) → k < n → Member k (set_of n (λ k. 1))
      all k l = bit-set (λ k. 1) (λ k. le_refl 1) n k l

  -- so inside the set of all the same nodes go round
  pub round-all : (S r : ℕ) → S ≡ set_of n (λ k. 1) → goes_round (inside P n S) n r ≡ goes_round P n r
  round-all S r is = rw is (go (goes_round P n r) refl)
    where
      go : (b : Bool) → goes_round P n r ≡ b → goes_round (inside P n (set_of n (λ k. 1))) n r ≡ b
      go true e = round-true (inside-tidy P n (set_of n (λ k. 1))) (inside-all (round-yes ok e))
      go false e = round-false (inside-tidy P n (set_of n (λ k. 1))) (λ w. round-no ok e (inside-out (set_of n (λ k. 1)) w))

-- Settling nodes one by one. Where in the end each unsettled node has an unsettled parent, that parent would have a lower rank without a loop,
-- and so on without end: a node that is left means a loop. Where none is left, the list is a whole order, and that rules a loop out.
use mathlib.Core.Path.{◌≡◌, refl, sym, ◌∙◌}
use mathlib.Core.Logic.{⊎_elim}
use mathlib.Core.Bool.{Bool, true, false}
use mathlib.Core.List.{List}
use Prim.Native.Nat.{ℕ, zero, suc, ◌≤◌, ◌<◌}
use native.Mathlib.Nat.{not-suc-le-zero, le_refl, le_antisymm}
use native.Mathlib.Omega.{arith}
use borrow.Author.Tests.{lt-ltb, le-ltb}
use lib.ListN.{length}
use Rattle.plain.specs.At.{at}
use Rattle.plain.proofs.Lists.{lt-or-ge}
use Rattle.sets.specs.Member.{bit, Member}
use Rattle.sets.proofs.Bits.{bit-zero, not-mem}
use Rattle.sets.proofs.Sizes.{size_none, size-full, size-hole}
use Rattle.ways.specs.Reaches.{Reaches}
use Rattle.ways.specs.Inner.Tidy.{Tidy}
use Rattle.ways.specs.Closure.{loops}
use Rattle.ways.specs.Inner.Settling.{Settling, Settled}
use Rattle.ways.proofs.Reaches.{parent-lt}
use Rattle.ways.proofs.Closure.{rank, rank_falls, loops-no, loops-false}
use Rattle.ways.proofs.Orders.{order-free}

-- before the first turn
pub settle-none : (P : List ℕ) (n : ℕ) (l : List ℕ) → length l ≡ 64 → Settling P n 0 l 0
settle-none P n l e = record {
  room = e;
  order = record {
    node = λ i h. absurd (not-suc-le-zero h);
    once = λ i j h g q. absurd (not-suc-le-zero h);
    after = λ i p h m. absurd (not-suc-le-zero h);
  };
  size = size_none n;
  held = λ i h. absurd (not-suc-le-zero h);
  listed = λ k m. absurd (not-mem (bit-zero k) m);
}

-- the list has no more entries than there are nodes
pub settle-count : {P : List ℕ} {n c s : ℕ} {l : List ℕ} → Settling P n c l s → c ≤ n
settle-count {n = n} {s = s} t = let a = size-full n s in let b = t.size in omega arith

-- the end: each unsettled node has an unsettled parent
module _ {P : List ℕ} {n c s : ℕ} {l : List ℕ} (ok : Tidy P n) (t : Settling P n c l s)
    (above : (v : ℕ) → v < n → bit v s ≡ 0 → (p : ℕ) × Member p (at P v) × (bit p s ≡ 0)) where
  -- without a loop its rank would be lower
  descend : ((v : ℕ) → Reaches P v v → ⊥) → (d v : ℕ) → rank P n v < d → v < n → bit v s ≡ 0 → ⊥
  descend free zero v h k z = not-suc-le-zero h
  descend free (suc d) v h k z =
      let p = above v k z in
      let g = rank_falls P n ok free v p.0 p.1 in
      descend free d p.0 (omega arith) (parent-lt P n ok v p.0 p.1) p.2

  -- so there is a loop where a node is left
  loop : c < n → loops P n ≡ true
  loop h = go (loops P n) refl
    where
      left : (v : ℕ) × (v < n) × (bit v s ≡ 0)
      left = size-hole n s (let e = t.size in omega arith)

      go : (b : Bool) → loops P n ≡ b → b ≡ true
      go true e = refl
      go false e = absurd (descend (loops-no P n ok e) (suc (rank P n left.0)) left.0 (le_refl (suc (rank P n left.0))) left.1 left.2)

  -- and none where the order is whole
  free : c ≡ n → (v : ℕ) → Reaches P v v → ⊥
  free e = order-free P n l ok (rw e at t.order)

  -- so the count tells it
  pub settle-end : Settled P n c
  settle-end = record {
    within = settle-count t;
    free = free;
    told = ⊎_elim
        (λ (h : c < n). loop h ∙ sym (lt-ltb c n h))
        (λ (h : n ≤ c). loops-false P n ok (free (le_antisymm (settle-count t) h)) ∙ sym (le-ltb c n h))
        (lt-or-ge c n);
  }

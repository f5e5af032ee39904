-- Orders: a way over parents goes back in the list, so no listed node reaches itself; and n nodes below n, each once, are all of them,
-- because their set has n members.
use mathlib.Core.Path.{◌≡◌, sym, ap, ◌∙◌}
use mathlib.Core.Logic.{⊎_elim}
use mathlib.Core.List.{List}
use Prim.Native.Nat.{ℕ, zero, suc, ◌^◌, ◌≤◌, ◌<◌}
use native.Mathlib.Nat.{ne_of_lt}
use native.Mathlib.Decide.{ℕ_discrete}
use native.Mathlib.Omega.{arith}
use lib.Bits.{bit_or}
use Rattle.plain.specs.At.{at}
use Rattle.sets.specs.Member.{bit, Member}
use Rattle.sets.specs.Size.{size_to}
use Rattle.sets.proofs.Bits.{bit-zero, mem-or, not-mem, put_other}
use Rattle.sets.proofs.Sizes.{size_none, size-put, size-all}
use Rattle.ways.specs.Reaches.{Reaches, edge, more}
use Rattle.ways.specs.Inner.Tidy.{Tidy}
use Rattle.ways.specs.Inner.Order.{Listed, Ordered}
use Rattle.ways.proofs.Reaches.{from-lt}

module _ (P : List ℕ) (n : ℕ) (l : List ℕ) (o : Ordered P n n l) where
  -- the set of the first c entries
  entries : (c : ℕ) → c ≤ n → (s : ℕ) × ((k : ℕ) → Member k s → Listed l c k) × (size_to n s ≡ c)
  entries zero h = (0, (λ k m. absurd (not-mem (bit-zero k) m)), size_none n)
  entries (suc c) h = go (entries c (omega arith))
    where
      v : ℕ
      v = at l c

      go : (s : ℕ) × ((k : ℕ) → Member k s → Listed l c k) × (size_to n s ≡ c)
          → (s : ℕ) × ((k : ℕ) → Member k s → Listed l (suc c) k) × (size_to n s ≡ suc c)
      go w = (bit_or w.0 (2 ^ v), from, size-put n w.0 v (o.node c h) new ∙ ap suc w.2)
        where
          again : Member v w.0 → bit v w.0 ≡ 0
          again m = let j = w.1 v m in absurd (ne_of_lt j.1 (o.once j.0 c (omega arith) h j.2))

          new : bit v w.0 ≡ 0
          new = ⊎_elim again (λ (z : bit v w.0 ≡ 0). z) (mem-or v w.0)

          from : (k : ℕ) → Member k (bit_or w.0 (2 ^ v)) → Listed l (suc c) k
          from k m = elim (ℕ_discrete k v) [
            | yes e ↦ (c, omega arith, sym e)
            | no ne ↦ (let j = w.1 k (sym (put_other w.0 v k ne) ∙ m) in (j.0, omega arith, j.2))
          ]

  -- every node is listed
  whole : (v : ℕ) → v < n → Listed l n v
  whole v h = let w = entries n (omega arith) in w.1 v (size-all n w.0 v w.2 h)

-- what a listed node reaches is listed before it
earlier : (P : List ℕ) (n c : ℕ) (l : List ℕ) → Ordered P n c l → {v q : ℕ} → Reaches P v q → (i : ℕ) → i < c → at l i ≡ v → Listed l i q
earlier P n c l o (edge {v} {p} m) i h e = o.after i p h (ap (λ (x : ℕ). bit p (at P x)) e ∙ m)
earlier P n c l o (more {v} {p} {q} m w) i h e =
    let a = o.after i p h (ap (λ (x : ℕ). bit p (at P x)) e ∙ m) in
    let b = earlier P n c l o w a.0 (omega arith) a.2 in
    (b.0, omega arith, b.2)

-- a whole order rules out a loop
pub order-free : (P : List ℕ) (n : ℕ) (l : List ℕ) → Tidy P n → Ordered P n n l → (v : ℕ) → Reaches P v v → ⊥
order-free P n l ok o v r =
    let i = whole P n l o v (from-lt P n ok r) in
    let j = earlier P n n l o r i.0 i.1 i.2 in
    ne_of_lt j.1 (o.once j.0 i.0 (omega arith) i.1 (j.2 ∙ sym i.2))

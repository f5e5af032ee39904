-- Who has not started waits in the set of one parent that is not done, and is looked at when that parent finishes; so who waits in the end
-- has a parent that is not done.
use mathlib.Core.Path.{◌≡◌, refl, sym, ap, ◌∙◌}
use mathlib.Core.Logic.{◌⊎◌, inl, inr, ⊎_elim}
use mathlib.Core.List.{List}
use Prim.Native.Nat.{ℕ, ◌-◌, ◌^◌, ◌<◌}
use native.Mathlib.Nat.{le_refl}
use native.Mathlib.Decide.{ℕ_discrete}
use native.Mathlib.Omega.{arith}
use lib.Bits.{bit_or}
use lib.ListN.{replicate, set, length-set}
use lib.Seq.{get_or-set_same, get_or-set_other}
use Rattle.plain.specs.At.{at}
use Rattle.plain.proofs.Lists.{at-replicate}
use Rattle.sets.specs.Member.{bit, Member}
use Rattle.sets.specs.Inner.Put.{with_member}
use Rattle.sets.specs.Rule.{set_of}
use Rattle.sets.proofs.Bits.{bit-zero, bit-out-same, bit-out-other, mem-lt, mem-or-l, mem-or-r, mem-or-cases, not-mem, put_same, put_other, with-or}
use Rattle.sets.proofs.Rule.{bit-set, set-lt}
use Rattle.sets.specs.Inner.Walk.{Walk}
use Rattle.ways.specs.Inner.Tidy.{Tidy}
use Rattle.ways.proofs.Reaches.{child-lt}
use Rattle.diagrams.specs.Inner.Sweep.{Waits, Woken}

-- before the first look nobody waits, and all are left
pub wake-all : (P : List ℕ) (n : ℕ) (e : List ℕ) → Woken P n 0 0 e (replicate 64 0) 0 (set_of n (λ k. 1))
wake-all P n e = record {
  room = refl;
  due = λ v m. (mem-lt n v (set_of n (λ k. 1)) (set-lt (λ k. 1) (λ k. le_refl 1) n) m, bit-zero v);
  apart = λ v q m r. nobody v q r;
  waits = λ v q r. absurd (nobody v q r);
  once = λ v p q r t. absurd (nobody v p r);
  all = λ v k z. inl (bit-set (λ j. 1) (λ j. le_refl 1) n v k);
  fresh = λ v m. inl refl;
}
  where
    nobody : (v q : ℕ) → Waits 0 (replicate 64 0) v q → ⊥
    nobody v q r = not-mem (ap (bit v) (at-replicate 64 q) ∙ bit-zero v) r.among

module _ {P : List ℕ} {n done t : ℕ} {e w : List ℕ} {started left : ℕ} (i : Woken P n done t e w started left) where
  -- ---- v, one of the nodes left, is looked at
  module _ {v rest : ℕ} (k : Walk left v rest) where
    pub look-due : (v < n) × (bit v started ≡ 0)
    look-due = i.due v k.mem

    -- who is left after it: all that were but v
    out : (j : ℕ) → Member j rest → (j ≡ v → ⊥) × Member j left
    out j m = (other, sym (bit-out-other v j left other k.mem) ∙ m2)
      where
        m2 : Member j (left - 2 ^ v)
        m2 = rw k.out at m

        other : j ≡ v → ⊥
        other e = not-mem (bit-out-same v left k.mem) (rw e at m2)

    stay : (j : ℕ) → (j ≡ v → ⊥) → Member j left → Member j rest
    stay j ne m = rw k.out (bit-out-other v j left ne k.mem ∙ m)

    -- it starts, and its finish is entered
    pub wake-start : (y : ℕ) → Woken P n done t (set e v y) w (with_member v started) rest
    wake-start y = rw (with-or v started) (record {
      room = i.room;
      due = λ j m. let o = out j m in let d = i.due j o.1 in (d.0, put_other started v j o.0 ∙ d.1);
      apart = λ j q m r. i.apart j q (out j m).1 r;
      waits = λ j q r. let d = i.waits j q r in (d.0, put_other started v j (λ a. i.apart j q (rw a k.mem) r) ∙ d.1);
      once = i.once;
      all = λ j h z. unlisted j h z (λ a. not-mem z (rw a (put_same started v)));
      fresh = λ j m. ⊎_elim
          (λ (z : t ≡ 0). inl z)
          (λ a. inr (a.0, a.1, mem-or-l a.0 started (2 ^ v) a.2, get_or-set_other e v a.0 y 0 (λ b. not-mem look-due.1 (rw b at a.2)) ∙ a.3))
          (i.fresh j (out j m).1);
    })
      where
        unlisted : (j : ℕ) → j < n → bit j (bit_or started (2 ^ v)) ≡ 0 → (j ≡ v → ⊥) → (Member j rest) ⊎ ((q : ℕ) × Waits done w j q)
        unlisted j h z ne = ⊎_elim
            (λ (m : Member j left). inl (stay j ne m))
            (λ (r : (q : ℕ) × Waits done w j q). inr r)
            (i.all j h (sym (put_other started v j ne) ∙ z))

    -- p, one of its parents, is not done, and it waits for that
    module _ {p : ℕ} (low : p < 64) (parent : Member p (at P v)) (undone : bit p done ≡ 0) where
      -- the sets with v in that of p
      more : List ℕ
      more = set w p (with_member v (at w p))

      at_p : at more p ≡ with_member v (at w p)
      unfolding more
      at_p = get_or-set_same w p (with_member v (at w p)) 0 (let a = i.room in omega arith)

      at_other : (q : ℕ) → (q ≡ p → ⊥) → at more q ≡ at w q
      unfolding more
      at_other q ne = get_or-set_other w p q (with_member v (at w p)) 0 ne

      -- who waits: v for p, and who waited before
      mine : Waits done more v p
      mine = record { undone = undone; among = rw (at_p, with-or v (at w p)) (put_same (at w p) v) }

      kept : (j q : ℕ) → Waits done w j q → Waits done more j q
      kept j q r = record {
        undone = r.undone;
        among = elim (ℕ_discrete q p) [
          | yes e ↦ rw (e, at_p, with-or v (at w p)) (mem-or-l j (at w p) (2 ^ v) (rw e at r.among))
          | no ne ↦ rw (at_other q ne) r.among
        ];
      }

      waited : (j q : ℕ) → Waits done more j q → (Waits done w j q) ⊎ ((j ≡ v) × (q ≡ p))
      waited j q r = go (ℕ_discrete q p) (ℕ_discrete j v)
        where
          go : Dec (q ≡ p) → Dec (j ≡ v) → (Waits done w j q) ⊎ ((j ≡ v) × (q ≡ p))
          go (no ne) d = inl (record { undone = r.undone; among = rw (at_other q ne) at r.among })
          go (yes e) (yes f) = inr (f, e)
          go (yes e) (no ne) = inl (record { undone = r.undone; among = rw e (sym (put_other (at w p) v j ne) ∙ (rw (e, at_p, with-or v (at w p)) at r.among)) })

      pub wake-wait : Woken P n done t e (set w p (with_member v (at w p))) started rest
      unfolding more
      wake-wait = record {
        room = length-set w p (with_member v (at w p)) ∙ i.room;
        due = λ j m. i.due j (out j m).1;
        apart = λ j q m r. ⊎_elim (λ (a : Waits done w j q). i.apart j q (out j m).1 a) (λ (e : (j ≡ v) × (q ≡ p)). (out j m).0 e.0) (waited j q r);
        waits = λ j q r. ⊎_elim (λ (a : Waits done w j q). i.waits j q a) (λ (e : (j ≡ v) × (q ≡ p)). rw (e.0, e.1) (parent, look-due.1)) (waited j q r);
        once = λ j q t a b. once j q t (waited j q a) (waited j t b);
        all = λ j h z. elim (ℕ_discrete j v) [
          | yes e ↦ inr (p, rw e mine)
          | no ne ↦ ⊎_elim (λ (m : Member j left). inl (stay j ne m)) (λ (r : (q : ℕ) × Waits done w j q). inr (r.0, kept j r.0 r.1)) (i.all j h z)
        ];
        fresh = λ j m. i.fresh j (out j m).1;
      }
        where
          -- v itself waited for nobody
          idle : (j q : ℕ) → j ≡ v → Waits done w j q → ⊥
          idle j q e = i.apart j q (rw e k.mem)

          once : (j q t : ℕ) → (Waits done w j q) ⊎ ((j ≡ v) × (q ≡ p)) → (Waits done w j t) ⊎ ((j ≡ v) × (t ≡ p)) → q ≡ t
          once j q t (inl a) (inl b) = i.once j q t a b
          once j q t (inl a) (inr e) = absurd (idle j q e.0 a)
          once j q t (inr e) (inl b) = absurd (idle j t e.0 b)
          once j q t (inr e) (inr f) = e.1 ∙ sym f.1

  -- ---- v, which finishes now, is done, and who waited for it is left to be looked at
  pub wake-done : Tidy P n → (v : ℕ) → bit v done ≡ 0 → Member v started → at e v ≡ t → Woken P n (with_member v done) t e w started (bit_or left (at w v))
  wake-done ok v z s f = rw (with-or v done) (record {
    room = i.room;
    due = λ j m. ⊎_elim
        (λ (a : Member j left). i.due j a)
        (λ (a : Member j (at w v)). let d = i.waits j v (mine j a) in (child-lt P n ok j v d.0, d.1))
        (mem-or-cases j left (at w v) m);
    apart = λ j q m r. ⊎_elim
        (λ (a : Member j left). i.apart j q a (was j q r))
        (λ (a : Member j (at w v)). other j q r (i.once j q v (was j q r) (mine j a)))
        (mem-or-cases j left (at w v) m);
    waits = λ j q r. i.waits j q (was j q r);
    once = λ j q t a b. i.once j q t (was j q a) (was j t b);
    all = λ j h y. ⊎_elim
        (λ (m : Member j left). inl (mem-or-l j left (at w v) m))
        (λ (r : (q : ℕ) × Waits done w j q). elim (ℕ_discrete r.0 v) [
          | yes a ↦ inl (mem-or-r j left (at w v) (rw a at r.1.among))
          | no ne ↦ inr (r.0, record { undone = put_other done v r.0 ne ∙ r.1.undone; among = r.1.among })
        ])
        (i.all j h y);
    fresh = λ j m. ⊎_elim
        (λ (a : Member j left). i.fresh j a)
        (λ (a : Member j (at w v)). inr (v, (i.waits j v (mine j a)).0, s, f))
        (mem-or-cases j left (at w v) m);
  })
    where
      mine : (j : ℕ) → Member j (at w v) → Waits done w j v
      mine j a = record { undone = z; among = a }

      other : (j q : ℕ) → Waits (bit_or done (2 ^ v)) w j q → q ≡ v → ⊥
      other j q r a = not-mem r.undone (rw a (put_same done v))

      was : (j q : ℕ) → Waits (bit_or done (2 ^ v)) w j q → Waits done w j q
      was j q r = record { undone = sym (put_other done v q (other j q r)) ∙ r.undone; among = r.among }

-- ---- where nobody is left to be looked at
module _ {P : List ℕ} {n done t : ℕ} {e w : List ℕ} {started : ℕ} (i : Woken P n done t e w started 0) where
  -- the time may move on
  pub wake-later : (u : ℕ) → Woken P n done u e w started 0
  wake-later u = record {
    room = i.room;
    due = i.due;
    apart = i.apart;
    waits = i.waits;
    once = i.once;
    all = i.all;
    fresh = λ j m. absurd (not-mem (bit-zero j) m);
  }

  -- who has not started has a parent that is not done
  pub wake-stuck : (v : ℕ) → v < n → bit v started ≡ 0 → (p : ℕ) × Member p (at P v) × (bit p done ≡ 0)
  wake-stuck v h z = ⊎_elim
      (λ (m : Member v 0). absurd (not-mem (bit-zero v) m))
      (λ (r : (q : ℕ) × Waits done w v q). (r.0, (i.waits v r.0 r.1).0, r.1.undone))
      (i.all v h z)

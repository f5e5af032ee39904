-- Times and cuts: a node that is looked at now has no parent that finishes later, and one that finishes now or the time is 0; so where all its
-- parents are done it starts at their latest finish. Threads are counted as the time moves on: who has started and is not done runs to the
-- first finish, and whoever starts later starts there or later.
use mathlib.Core.Path.{◌≡◌, sym, ap, ◌∙◌}
use mathlib.Core.Logic.{◌⊎◌, inl, inr, ⊎_elim}
use mathlib.Core.List.{List}
use Prim.Native.Nat.{ℕ, ◌+◌, ◌^◌, ◌≤◌, ◌<◌}
use native.Mathlib.Nat.{le_refl, le_antisymm}
use native.Mathlib.Decide.{ℕ_discrete}
use native.Mathlib.Omega.{arith}
use lib.Bits.{bit_or}
use lib.ListN.{set, length-set}
use lib.Seq.{get_or-set_same, get_or-set_other}
use Rattle.plain.specs.At.{at}
use Rattle.sets.specs.Member.{bit, Member}
use Rattle.sets.specs.Inner.Put.{with_member}
use Rattle.sets.specs.Greatest.{greatest}
use Rattle.sets.proofs.Bits.{mem-or, mem-or-l, not-mem, put_same, put_other, with-or}
use Rattle.sets.proofs.Greatest.{greatest-le, le-greatest, greatest-same}
use Rattle.queues.specs.Inner.Putting.{Rising}
use Rattle.ways.specs.Inner.Tidy.{Tidy}
use Rattle.ways.specs.Inner.Weights.{weight_max}
use Rattle.ways.proofs.Reaches.{parent-lt}
use Rattle.diagrams.specs.Inner.Sweep.{Subset, Queue, Begun, Times, Completes, Cuts}
use Rattle.diagrams.proofs.Queues.{done-started}

module _ {P X : List ℕ} {n : ℕ} {c : ℕ → ℕ} {m en z : List ℕ} {head done j t : ℕ} {l e f : List ℕ} {tail started : ℕ}
    (q : Queue P n l head done tail started) (i : Times P X n c done j t l e f tail started) (k : Cuts n c m en z done j t e f started) where
  -- ---- v starts now
  module _ {v : ℕ} (low : v < 64) (new : bit v started ≡ 0) where
    -- its finish and its first cut are entered
    ends : List ℕ
    ends = set e v (t + at X v)

    firsts : List ℕ
    firsts = set f v j

    -- nothing changes for a started node
    other : (u : ℕ) → Member u started → u ≡ v → ⊥
    other u a b = not-mem new (rw b at a)

    old-end : (u : ℕ) → Member u started → at ends u ≡ at e u
    unfolding ends
    old-end u a = get_or-set_other e v u (t + at X v) 0 (other u a)

    old-first : (u : ℕ) → Member u started → at firsts u ≡ at f u
    unfolding firsts
    old-first u a = get_or-set_other f v u j 0 (other u a)

    new-end : at ends v ≡ t + at X v
    unfolding ends
    new-end = get_or-set_same e v (t + at X v) 0 (let a = i.ends in omega arith)

    new-first : at firsts v ≡ j
    unfolding firsts
    new-first = get_or-set_same f v j 0 (let a = i.firsts in omega arith)

    -- the queue ascends by the new finishes too, and who is done has finished by now
    pub start-rising : Rising (at (set e v (t + at X v))) tail l
    unfolding ends
    start-rising a b h g = rw (
      old-end (at l a) (q.settled.held a (omega arith)),
      old-end (at l b) (q.settled.held b g),
    ) (i.rising a b h g)

    pub start-behind : (a : ℕ) → a < head → at (set e v (t + at X v)) (at l a) ≤ t
    unfolding ends
    start-behind a h = rw (old-end (at l a) (q.settled.held a (let b = q.within in omega arith))) (i.behind (at l a) (q.held a h))

    pub start-ahead : t ≤ at (set e v (t + at X v)) v
    unfolding ends
    start-ahead = let a = new-end in omega arith

    module _ (ok : Tidy P n) (light : at X v ≤ weight_max) (up : Subset (at P v) done)
        (now : (t ≡ 0) ⊎ ((p : ℕ) × Member p (at P v) × Member p started × (at e p ≡ t))) where
      -- its start is the latest finish of its parents
      latest : t ≡ greatest n (at P v) (at ends)
      latest = le_antisymm (least now) (greatest-le n (at P v) (at ends) t (λ p h a. rw (old-end p (done-started q p (up p a))) (i.behind p (up p a))))
        where
          least : (t ≡ 0) ⊎ ((p : ℕ) × Member p (at P v) × Member p started × (at e p ≡ t)) → t ≤ greatest n (at P v) (at ends)
          least (inl a) = omega arith
          least (inr a) =
              let b = le-greatest n (at P v) (at ends) a.0 (parent-lt P n ok v a.0 a.1) a.1 in
              let d = old-end a.0 a.2 in
              let g = a.3 in
              omega arith

      -- every started node has begun
      begun-new : Begun P X n c done j ends firsts v
      begun-new = record {
        number = let a = new-first in omega arith;
        start = ap c new-first ∙ k.present ∙ latest;
        end = new-end ∙ ap (λ (x : ℕ). x + at X v) (sym k.present ∙ ap c (sym new-first));
        above = up;
      }

      begun-old : (u : ℕ) → Member u started → Begun P X n c done j ends firsts u
      begun-old u a = let b = i.begun u a in record {
        number = rw (old-first u a) b.number;
        start = ap c (old-first u a) ∙ b.start ∙ greatest-same n (at P u) (at e) (at ends) (λ p h g. sym (old-end p (done-started q p (b.above p g))));
        end = old-end u a ∙ b.end ∙ ap (λ (x : ℕ). c x + at X u) (sym (old-first u a));
        above = b.above;
      }

      -- a started node is v or was started before
      either : (u : ℕ) → Member u (bit_or started (2 ^ v)) → (u ≡ v) ⊎ (Member u started)
      either u a = elim (ℕ_discrete u v) [
        | yes b ↦ inl b
        | no ne ↦ inr (sym (put_other started v u ne) ∙ a)
      ]

      pub start-times : {l' : List ℕ} → Rising (at (set e v (t + at X v))) (tail + 1) l'
          → Times P X n c done j t l' (set e v (t + at X v)) (set f v j) (tail + 1) (with_member v started)
      unfolding ends firsts
      start-times r = rw (with-or v started) (record {
        ends = length-set e v (t + at X v) ∙ i.ends;
        firsts = length-set f v j ∙ i.firsts;
        rising = r;
        begun = λ u a. ⊎_elim (λ (b : u ≡ v). rw b begun-new) (λ (b : Member u started). begun-old u b) (either u a);
        behind = λ u a. rw (old-end u (done-started q u a)) (i.behind u a);
        ahead = λ u a b. ⊎_elim (λ (g : u ≡ v). rw g start-ahead) (λ (g : Member u started). rw (old-end u g) (i.ahead u g b)) (either u a);
        late = let a = i.late in omega arith;
        small = λ u a. ⊎_elim
            (λ (g : u ≡ v). rw g (let a = i.late in let b = new-end in let d = light in omega arith))
            (λ (g : Member u started). let a = i.small u g in let b = old-end u g in omega arith)
            (either u a);
      })

    -- what can come after can come before too
    fewer : (S F : ℕ → ℕ) → Completes n c t ends firsts (bit_or started (2 ^ v)) S F → Completes n c t e f started S F
    fewer S F a = record {
      fixed = λ u b. let d = a.fixed u (mem-or-l u started (2 ^ v) b) in (d.0 ∙ ap c (old-first u b), d.1 ∙ old-end u b);
      later = λ u h b. elim (ℕ_discrete u v) [
        | yes g ↦ rw g (let d = a.fixed v (put_same started v) in let x = d.0 ∙ ap c new-first ∙ k.present in omega arith)
        | no ne ↦ a.later u h (put_other started v u ne ∙ b)
      ];
    }

    pub start-cuts : Cuts n c m en z done j t (set e v (t + at X v)) (set f v j) (with_member v started)
    unfolding ends firsts
    start-cuts = rw (with-or v started) (record {
      counts = k.counts;
      enders = k.enders;
      lasts = k.lasts;
      few = k.few;
      from = k.from;
      present = k.present;
      up = k.up;
      closed = λ a h. let b = k.closed a h in (mem-or-l (at en a) started (2 ^ v) b.0, b.1 ∙ sym (old-end (at en a) b.0));
      ended = λ u a. let b = k.ended u a in (b.0, b.1 ∙ sym (old-end u (done-started q u a)));
      threads = λ S F a. k.threads S F (fewer S F a);
    })

  -- ---- v, which has started and finishes now, is done
  module _ {v : ℕ} (low : v < 64) (fin : at e v ≡ t) where
    gone : (u : ℕ) → Member u (bit_or done (2 ^ v)) → (u ≡ v) ⊎ (Member u done)
    gone u a = elim (ℕ_discrete u v) [
      | yes b ↦ inl b
      | no ne ↦ inr (sym (put_other done v u ne) ∙ a)
    ]

    pub done-times : Times P X n c (with_member v done) j t l e f tail started
    done-times = rw (with-or v done) (record {
      ends = i.ends;
      firsts = i.firsts;
      rising = i.rising;
      begun = λ u a. let b = i.begun u a in record {
        number = b.number;
        start = b.start;
        end = b.end;
        above = λ p g. mem-or-l p done (2 ^ v) (b.above p g);
      };
      behind = λ u a. ⊎_elim (λ (b : u ≡ v). rw b (omega arith)) (λ (b : Member u done). i.behind u b) (gone u a);
      ahead = λ u a b. i.ahead u a (undone u b (mem-or u done));
      late = i.late;
      small = i.small;
    })
      where
        undone : (u : ℕ) → bit u (bit_or done (2 ^ v)) ≡ 0 → (Member u done) ⊎ (bit u done ≡ 0) → bit u done ≡ 0
        undone u b (inl a) = absurd (not-mem b (mem-or-l u done (2 ^ v) a))
        undone u b (inr a) = a

    pub done-cuts : Cuts n c m en (set z v j) (with_member v done) j t e f started
    done-cuts = rw (with-or v done) (record {
      counts = k.counts;
      enders = k.enders;
      lasts = length-set z v j ∙ k.lasts;
      few = k.few;
      from = k.from;
      present = k.present;
      up = k.up;
      closed = k.closed;
      ended = λ u a. elim (ℕ_discrete u v) [
        | yes b ↦ rw (b, get_or-set_same z v j 0 (let d = k.lasts in omega arith)) (le_refl j, k.present ∙ sym fin)
        | no ne ↦ rw (get_or-set_other z v u j 0 ne) (k.ended u (sym (put_other done v u ne) ∙ a))
      ];
      threads = k.threads;
    })

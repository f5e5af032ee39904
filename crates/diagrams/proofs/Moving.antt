-- The time moves on to the first finish: who has started and is not done runs up to there, who is done does not, and whoever starts later
-- starts there or later, so the threads are counted whatever the sweep comes to.
use mathlib.Core.Path.{◌≡◌, sym, ap, ap₂, ◌∙◌}
use mathlib.Core.Logic.{◌⊎◌, inl, inr, ⊎_elim}
use mathlib.Core.List.{List}
use Prim.Native.Nat.{ℕ, suc, ◌+◌, ◌-◌, ◌^◌, ◌≤◌, ◌<◌, min}
use native.Mathlib.Nat.{le_refl, eq-or-lt_of_le}
use native.Mathlib.Numerals.{add-one}
use native.Mathlib.Omega.{arith}
use lib.Bits.{bit_and}
use lib.ListN.{set, length-set}
use lib.Seq.{get_or-set_same, get_or-set_other}
use Rattle.plain.specs.At.{at}
use Rattle.sets.specs.Member.{bit, Member}
use Rattle.sets.specs.Size.{size}
use Rattle.sets.proofs.Bits.{bit-and, bit_not, mem-or}
use Rattle.sets.proofs.Greatest.{greatest-le}
use Rattle.segments.specs.Running.{runs, running_in}
use Rattle.segments.proofs.Sets.{collected-set}
use Rattle.segments.proofs.Running.{runs-yes, runs-late, runs-early, runs-flag}
use Rattle.diagrams.specs.Inner.Sweep.{Queue, Times, Completes, Cuts}
use Rattle.diagrams.proofs.Queues.{started-lt, head-started, queue-behind}

module _ {P X : List ℕ} {n : ℕ} {c c' : ℕ → ℕ} {m en z : List ℕ} {head done j t : ℕ} {l e f : List ℕ} {tail started : ℕ}
    (q : Queue P n l head done tail started) (i : Times P X n c done j t l e f tail started) (k : Cuts n c m en z done j t e f started)
    (h : head < tail) (up : t < at e (at l head)) (same : (a : ℕ) → a ≤ j → c' a ≡ c a) (next : c' (suc j) ≡ at e (at l head)) where
  -- the first finish
  abbrev to : ℕ
  to = at e (at l head)

  -- who has started and is not done finishes there or later
  ahead : (v : ℕ) → Member v started → bit v done ≡ 0 → to ≤ at e v
  ahead v a b = let w = queue-behind q h v a b in rw (← w.3) (i.rising head w.0 w.1 w.2)

  -- and has started by now
  begun : (v : ℕ) → Member v started → c (at f v) ≤ t
  begun v a = let b = i.begun v a in rw b.start (greatest-le n (at P v) (at e) t (λ p g d. i.behind p (b.above p d)))

  pub move-times : Times P X n c' done (j + 1) (at e (at l head)) l e f tail started
  move-times = record {
    ends = i.ends;
    firsts = i.firsts;
    rising = i.rising;
    begun = λ v a. let b = i.begun v a in let s = same (at f v) b.number in record {
      number = let d = b.number in omega arith;
      start = s ∙ b.start;
      end = b.end ∙ ap (λ (x : ℕ). x + at X v) (sym s);
      above = b.above;
    };
    behind = λ v a. let b = i.behind v a in omega arith;
    ahead = ahead;
    late = i.small (at l head) (head-started q h);
    small = i.small;
  }

  -- what can come after can come before too
  fewer : (S F : ℕ → ℕ) → Completes n c' to e f started S F → Completes n c t e f started S F
  fewer S F a = record {
    fixed = λ v b. let d = a.fixed v b in (d.0 ∙ same (at f v) (i.begun v b).number, d.1);
    later = λ v g b. let d = a.later v g b in omega arith;
  }

  module _ (few : n ≤ 64) (word : done < 2 ^ 64) where
    -- who runs from now to the first finish
    run : (S F : ℕ → ℕ) → Completes n c' to e f started S F → bit_and started (2 ^ 64 - 1 - done) ≡ running_in n S F t to
    unfolding running_in
    run S F a = collected-set (λ v. runs (S v) (F v) t to) (λ v. runs-flag (S v) (F v) t to) n (record {
      done = λ v g. go v g (mem-or v started) (mem-or v done) (both v) (bit_not 64 v done (omega arith) word);
      rest = λ v g. late v g (mem-or v started) (both v);
    })
      where
        both : (v : ℕ) → bit v (bit_and started (2 ^ 64 - 1 - done)) ≡ min (bit v started) (bit v (2 ^ 64 - 1 - done))
        both v = bit-and v started (2 ^ 64 - 1 - done)

        late : (v : ℕ) → n ≤ v → (Member v started) ⊎ (bit v started ≡ 0) → bit v (bit_and started (2 ^ 64 - 1 - done)) ≡ min (bit v started) (bit v (2 ^ 64 - 1 - done))
            → bit v (bit_and started (2 ^ 64 - 1 - done)) ≡ 0
        late v g (inl b) x = let y = started-lt q v b in absurd (omega arith)
        late v g (inr b) x = omega arith

        go : (v : ℕ) → v < n → (Member v started) ⊎ (bit v started ≡ 0) → (Member v done) ⊎ (bit v done ≡ 0)
            → bit v (bit_and started (2 ^ 64 - 1 - done)) ≡ min (bit v started) (bit v (2 ^ 64 - 1 - done)) → bit v (2 ^ 64 - 1 - done) ≡ 1 - bit v done
            → bit v (bit_and started (2 ^ 64 - 1 - done)) ≡ runs (S v) (F v) t to
        go v g (inr b) d x y =
            let s = a.later v g b in
            let r : runs (S v) (F v) t to ≡ 0 = runs-late (F v) to (omega arith) in
            omega arith
        go v g (inl b) (inl d) x y =
            let s = (a.fixed v b).1 in
            let p = i.behind v d in
            let r : runs (S v) (F v) t to ≡ 0 = runs-early (S v) t (omega arith) in
            omega arith
        go v g (inl b) (inr d) x y =
            let s = a.fixed v b in
            let s1 = s.0 ∙ same (at f v) (i.begun v b).number in
            let s2 = s.1 in
            let p = begun v b in
            let o = ahead v b d in
            let r : runs (S v) (F v) t to ≡ 1 = runs-yes (omega arith) (omega arith) in
            omega arith

    pub move-cuts : j < 64 → Cuts n c' (set m j (size (bit_and started (2 ^ 64 - 1 - done)))) (set en j (at l head)) z done (j + 1) (at e (at l head)) e f started
    move-cuts low = record {
      counts = length-set m j (size (bit_and started (2 ^ 64 - 1 - done))) ∙ k.counts;
      enders = length-set en j (at l head) ∙ k.enders;
      lasts = k.lasts;
      few = omega arith;
      from = same 0 (omega arith) ∙ k.from;
      present = rw add-one next;
      up = λ a g. ⊎_elim
          (λ (b : a ≡ j). rw b (let x = same j (le_refl j) in let y = k.present in let w = next in omega arith))
          (λ (b : a < j). let x = same a (omega arith) in let y = same (suc a) b in let w = k.up a b in omega arith)
          (eq-or-lt_of_le (omega arith));
      closed = λ a g. ⊎_elim
          (λ (b : a ≡ j). rw (b, get_or-set_same en j (at l head) 0 (let x = k.enders in omega arith)) (head-started q h, next))
          (λ (b : a < j). rw (get_or-set_other en j a (at l head) 0 (λ x. omega arith)) (let d = k.closed a b in (d.0, same (suc a) b ∙ d.1)))
          (eq-or-lt_of_le (omega arith));
      ended = λ v a. let b = k.ended v a in (let d = b.0 in omega arith, same (at z v) b.0 ∙ b.1);
      threads = λ S F a b g. ⊎_elim
          (λ (d : b ≡ j). rw d (get_or-set_same m j sum 0 (let x = k.counts in omega arith) ∙ ap size (run S F a ∙ ap₂ (running_in n S F) (sym k.present ∙ sym (same j (le_refl j))) (sym next))))
          (λ (d : b < j).
          get_or-set_other m j b sum 0 (λ x. omega arith)
          ∙ k.threads S F (fewer S F a) b d
          ∙ ap size (ap₂ (running_in n S F) (sym (same b (omega arith))) (sym (same (suc b) d))))
          (eq-or-lt_of_le (omega arith));
    }
      where
        sum : ℕ
        sum = size (bit_and started (2 ^ 64 - 1 - done))

-- The end of a sweep: the queue is empty, so who has not started has a parent that has not, and where all have started the finishes obey the
-- rule of the longest ways, of which there is one answer; the cuts are then 0 and the finishes, ascending, of which there is one list.
use mathlib.Core.Path.{◌≡◌, sym, ap, ap₂, ◌∙◌}
use mathlib.Core.Logic.{◌⊎◌, inl, inr, ⊎_elim}
use mathlib.Core.Bool.{false, false≢true}
use mathlib.Core.List.{List}
use Prim.Native.Nat.{ℕ, zero, suc, ◌+◌, ◌≤◌, ◌<◌}
use native.Mathlib.Nat.{le_refl, le_antisymm}
use native.Mathlib.Omega.{arith}
use borrow.Author.Tests.{lt-ltb}
use Rattle.plain.specs.At.{at}
use Rattle.plain.proofs.Lists.{lt-or-ge}
use Rattle.sets.specs.Member.{bit, Member}
use Rattle.sets.specs.Size.{size}
use Rattle.sets.proofs.Bits.{mem-or, not-mem}
use Rattle.sets.proofs.Sizes.{size-all}
use Rattle.ways.specs.Reaches.{Reaches}
use Rattle.ways.specs.Inner.Settling.{Settled}
use Rattle.ways.specs.Closure.{loops}
use Rattle.ways.specs.Ways.{begins, ends}
use Rattle.ways.proofs.Settling.{settle-end}
use Rattle.ways.proofs.Ways.{begin-same, at-begins, only-rule}
use Rattle.segments.specs.Cut.{cut, segments}
use Rattle.segments.specs.Running.{running_in, running, threads}
use Rattle.segments.specs.Cutting.{Cutting}
use Rattle.segments.proofs.Segments.{cut-end}
use Rattle.segments.proofs.Cutting.{one-cutting}
use Rattle.diagrams.specs.Inner.Sweep.{Sweep, Between, Completes}
use Rattle.diagrams.specs.Inner.Traced.{CutUp, Spanned, Traced}
use Rattle.diagrams.proofs.Diagram.{diagram}
use Rattle.diagrams.proofs.Queues.{started-lt}
use Rattle.diagrams.proofs.Waking.{wake-stuck}

module _ {P X : List ℕ} {n : ℕ} {m en z : List ℕ} {head done j t : ℕ} {l e f w : List ℕ} {tail started : ℕ}
    (b : Between P X n m en z head done j t l e f w tail started 0) (empty : tail ≤ head) where
  abbrev i : Sweep P X n b.cut_at m en z head done j t l e f w tail started 0
  i = b.state

  -- every started node is done
  all_done : (v : ℕ) → Member v started → Member v done
  all_done v a =
      let b = i.queue.settled.listed v a in
      ap (λ (x : ℕ). bit x done) (sym b.2) ∙ i.queue.held b.0 (let d = b.1 in omega arith)

  -- so the queue is whole exactly where no node is reached from itself
  settled : Settled P n tail
  settled = settle-end i.tidy i.queue.settled (λ v h a. let b = wake-stuck i.woken v h a in (b.0, b.1, idle b.0 b.2 (mem-or b.0 started)))
    where
      idle : (p : ℕ) → bit p done ≡ 0 → (Member p started) ⊎ (bit p started ≡ 0) → bit p started ≡ 0
      idle p a (inl b) = absurd (not-mem a (all_done p b))
      idle p a (inr b) = b

  -- ---- without a loop
  module _ (full : n ≤ tail) where
    abbrev S : ℕ → ℕ
    S = at (begins P X n)

    abbrev F : ℕ → ℕ
    F = at (ends P X n)

    abbrev c : ℕ → ℕ
    c = b.cut_at

    free : (v : ℕ) → Reaches P v v → ⊥
    free = settled.free (le_antisymm settled.within full)

    -- every node has started
    all-started : (v : ℕ) → v < n → Member v started
    all-started v h = size-all n started v (let a = i.queue.settled.size in let b = settled.within in omega arith) h

    -- the finishes and the starts are those of the longest ways
    ends-are : (v : ℕ) → v < n → F v ≡ at e v
    ends-are = only-rule P X n i.tidy free (at e) (λ v h. let b = i.times.begun v (all-started v h) in b.end ∙ ap (λ (x : ℕ). x + at X v) b.start)

    begins-are : (v : ℕ) → v < n → S v ≡ c (at f v)
    begins-are v h =
        at-begins P X n v h
        ∙ begin-same P n F (at e) v (λ p g a. ends-are p g)
        ∙ sym (i.times.begun v (all-started v h)).start

    -- the run's cuts cut its timing diagram, and there is one way to do that
    first : (v : ℕ) → v < n → (at f v ≤ j) × (c (at f v) ≡ S v)
    first v h = ((i.times.begun v (all-started v h)).number, sym (begins-are v h))

    last : (v : ℕ) → v < n → (at z v ≤ j) × (c (at z v) ≡ F v)
    last v h = let a = i.cuts.ended v (all_done v (all-started v h)) in (a.0, a.1 ∙ sym (ends-are v h))

    cutting : Cutting n S F j c
    cutting = record {
      from = i.cuts.from;
      up = i.cuts.up;
      start = λ v h. (at f v, (first v h).0, (first v h).1);
      finish = λ v h. (at z v, (last v h).0, (last v h).1);
      only = only;
    }
      where
        only : (a : ℕ) → a ≤ j → (c a ≡ 0) ⊎ ((v : ℕ) × (v < n) × ((c a ≡ S v) ⊎ (c a ≡ F v)))
        only zero h = inl i.cuts.from
        only (suc a) h = let d = i.cuts.closed a h in let g = started-lt i.queue (at en a) d.0 in inr (at en a, g, inr (d.1 ∙ sym (ends-are (at en a) g)))

    one : (j ≡ segments n F) × ((a : ℕ) → a ≤ j → c a ≡ cut n F a)
    one = one-cutting (diagram P X n i.tidy free) cutting

    completes : Completes n c t e f started S F
    completes = record {
      fixed = λ v a. let h = started-lt i.queue v a in (begins-are v h, ends-are v h);
      later = λ v h a. absurd (not-mem a (all-started v h));
    }

    threads-are : (a : ℕ) → a < j → at m a ≡ threads n S F a
    unfolding threads running
    threads-are a h =
        i.cuts.threads S F completes a h
        ∙ ap size (ap₂ (running_in n S F) (one.1 a (omega arith)) (one.1 (suc a) h))

    cut_up : CutUp n S F j t m en e
    cut_up = record {
      count = one.0;
      threads-are = threads-are;
      closed = λ a h. let d = i.cuts.closed a h in (started-lt i.queue (at en a) d.0, sym d.1 ∙ one.1 (suc a) h);
      finish = λ v h. sym (ends-are v h);
      path-is = sym i.cuts.present ∙ one.1 j (le_refl j) ∙ ap (cut n F) one.0 ∙ cut-end n F;
    }

    spanned : Spanned n S F f z
    spanned = record {
      first = λ v h. let a = first v h in (rw one.0 at a.0, sym (one.1 (at f v) a.0) ∙ a.1);
      last = λ v h. let a = last v h in (rw one.0 at a.0, sym (one.1 (at z v) a.0) ∙ a.1);
    }

  -- what the caller gets
  pub sweep-end : Traced P X n head j t m en e f z
  sweep-end = rw same (record {
    told = settled.told;
    cut_up = λ a. cut_up (full a);
    spanned = λ a. spanned (full a);
  })
    where
      same : head ≡ tail
      same = let a = i.queue.within in omega arith

      full : loops P n ≡ false → n ≤ tail
      full a = ⊎_elim
          (λ (h : tail < n). absurd (false≢true (sym a ∙ settled.told ∙ lt-ltb tail n h)))
          (λ (h : n ≤ tail). h)
          (lt-or-ge tail n)

-- The steps of a run, each from one whole state to the next: a step changes some parts of the state, the laws on each part say how it goes on,
-- and the other parts do not speak of what changed.
use mathlib.Core.Path.{◌≡◌, refl}
use mathlib.Core.Logic.{inl, inr}
use mathlib.Core.List.{List}
use Prim.Native.Nat.{ℕ, suc, ◌+◌, ◌-◌, ◌^◌, ◌≤◌, ◌<◌}
use native.Mathlib.Nat.{not-suc-le-zero, le_refl, le_antisymm}
use native.Mathlib.Omega.{arith}
use borrow.Author.Tests.{lt-ltb, le-ltb}
use lib.Bits.{bit_and, bit_or}
use lib.Dec.{ltb}
use lib.ListN.{length, set, replicate}
use Rattle.plain.specs.At.{at}
use Rattle.plain.specs.Pick.{pick}
use Rattle.sets.specs.Member.{bit, Member}
use Rattle.sets.specs.Inner.Put.{with_member}
use Rattle.sets.specs.Size.{size}
use Rattle.sets.specs.Rule.{set_of}
use Rattle.sets.proofs.Bits.{bit-zero, not-mem}
use Rattle.sets.proofs.Sizes.{size-full}
use Rattle.sets.specs.Inner.Walk.{Walk}
use Rattle.sets.proofs.Words.{none-missing}
use Rattle.ways.proofs.Reaches.{parent-lt}
use Rattle.ways.proofs.Settling.{settle-none}
use Rattle.queues.specs.Inner.Putting.{PutIn, PutAt}
use Rattle.diagrams.specs.Inner.Sweep.{Subset, Sweep, Between}
use Rattle.diagrams.specs.Inner.Moved.{MovedOn}
use Rattle.diagrams.specs.Inner.Traced.{SweepIn}
use Rattle.diagrams.proofs.Queues.{queue-room, head-started, head-undone, queue-pop, put-behind, put-rising, queue-put}
use Rattle.diagrams.proofs.Waking.{wake-all, look-due, wake-start, wake-wait, wake-done, wake-later}
use Rattle.diagrams.proofs.Timing.{start-rising, start-behind, start-ahead, start-times, start-cuts, done-times, done-cuts}
use Rattle.diagrams.proofs.Moving.{move-times, move-cuts}

-- the lists that a run fills have 64 entries each
pub record Roomy (m en z e f : List ℕ) : Type 0 where
  pub counts : length m ≡ 64
  pub enders : length en ≡ 64
  pub lasts : length z ≡ 64
  pub ends : length e ≡ 64
  pub firsts : length f ≡ 64

-- ---- before the first look
pub sweep-none : {P X : List ℕ} {n : ℕ} {m en f z l e w : List ℕ} → SweepIn P X n → Roomy m en z e f → length l ≡ 64 → w ≡ replicate 64 0
    → Sweep P X n (λ _. 0) m en z 0 0 0 0 l e f w 0 0 (set_of n (λ k. 1))
sweep-none {P} {n = n} {l = l} {e = e} h room r none = rw none (record {
  fits = h.fits;
  tidy = h.tidy;
  light = h.light;
  queue = record {
    settled = settle-none P n l r;
    within = omega arith;
    held = λ i g. absurd (not-suc-le-zero g);
    listed = λ k g. absurd (nobody k g);
  };
  times = record {
    ends = room.ends;
    firsts = room.firsts;
    rising = λ i j a b. absurd (not-suc-le-zero b);
    begun = λ v g. absurd (nobody v g);
    behind = λ v g. absurd (nobody v g);
    ahead = λ v g. absurd (nobody v g);
    late = omega arith;
    small = λ v g. absurd (nobody v g);
  };
  woken = wake-all P n e;
  cuts = record {
    counts = room.counts;
    enders = room.enders;
    lasts = room.lasts;
    few = omega arith;
    from = refl;
    present = refl;
    up = λ i g. absurd (not-suc-le-zero g);
    closed = λ i g. absurd (not-suc-le-zero g);
    ended = λ v g. absurd (nobody v g);
    threads = λ S F g i b. absurd (not-suc-le-zero b);
  };
})
  where
    nobody : (v : ℕ) → Member v 0 → ⊥
    nobody v g = not-mem (bit-zero v) g

module _ {P X : List ℕ} {n : ℕ} {c : ℕ → ℕ} {m en z : List ℕ} {head done j t : ℕ} {l e f w : List ℕ} {tail started left : ℕ}
    (i : Sweep P X n c m en z head done j t l e f w tail started left) where
  -- ---- v, one of the nodes left, is looked at
  module _ {v rest : ℕ} (k : Walk left v rest) where
    due : (v < n) × (bit v started ≡ 0)
    due = look-due i.woken k

    pub look-room : tail < 64
    look-room = let a = queue-room i.queue v due.0 due.1 in let b = i.fits in omega arith

    -- its finish fits a word
    pub look-fits : t + at X v < 2 ^ 64
    look-fits = let a = look-room in let b = i.times.late in let d = i.light v in omega arith

    -- it can be put into the queue
    pub look-put : PutIn (at (set e v (t + at X v))) tail v l
    look-put = record {
      room = i.queue.settled.room;
      within = look-room;
      low = k.lt;
      node = λ a h. (let b = i.queue.settled.order.node a h in let d = i.fits in omega arith);
      rising = start-rising i.queue i.times i.cuts k.lt due.1;
    }

    -- and starts, where no parent is missing
    pub look-starts : done < 2 ^ 64 → bit_and (at P v) (2 ^ 64 - 1 - done) ≡ 0 → {l' : List ℕ} {p : ℕ} → PutAt (at (set e v (t + at X v))) tail v l l' p
        → Sweep P X n c m en z head done j t l' (set e v (t + at X v)) (set f v j) w (tail + 1) (with_member v started) rest
    look-starts word none {l'} {p} x = record {
      fits = i.fits;
      tidy = i.tidy;
      light = i.light;
      queue = queue-put i.queue x due.0 due.1
          (put-behind i.queue x t (start-behind i.queue i.times i.cuts k.lt due.1) (start-ahead i.queue i.times i.cuts k.lt due.1))
          up;
      times = start-times i.queue i.times i.cuts k.lt due.1 i.tidy (i.light v) up (i.woken.fresh v k.mem)
          (put-rising i.queue x look-put.rising);
      woken = wake-start i.woken k (t + at X v);
      cuts = start-cuts i.queue i.times i.cuts k.lt due.1;
    }
      where
        up : Subset (at P v) done
        up = none-missing (at P v) done (λ q a. let b = parent-lt P n i.tidy v q a in let d = i.fits in omega arith) word none

    -- or waits for a parent that is not done
    pub look-waits : {p : ℕ} → p < 64 → Member p (at P v) → bit p done ≡ 0
        → Sweep P X n c m en z head done j t l e f (set w p (with_member v (at w p))) tail started rest
    look-waits low a b = record {
      fits = i.fits;
      tidy = i.tidy;
      light = i.light;
      queue = i.queue;
      times = i.times;
      woken = wake-wait i.woken k low a b;
      cuts = i.cuts;
    }

  -- ---- the first node that is not done
  module _ (h : head < tail) where
    pub head-low : (head < 64) × (at l head < 64)
    head-low =
        let a = i.queue.settled.order.node head h in
        let b = i.fits in
        let d = queue-count in
        (omega arith, omega arith)
      where
        queue-count : tail ≤ n
        queue-count = let a = size-full n started in let b = i.queue.settled.size in omega arith

    -- finishes now, and is done
    pub finish-one : at e (at l head) ≡ t
        → Sweep P X n c m en (set z (at l head) j) (head + 1) (with_member (at l head) done) j t l e f w tail started (bit_or left (at w (at l head)))
    finish-one fin = record {
      fits = i.fits;
      tidy = i.tidy;
      light = i.light;
      queue = queue-pop i.queue h;
      times = done-times i.queue i.times i.cuts head-low.1 fin;
      woken = wake-done i.woken i.tidy (at l head) (head-undone i.queue h) (head-started i.queue h) fin;
      cuts = done-cuts i.queue i.times i.cuts head-low.1 fin;
    }

-- ---- who was left has been looked at
pub looked : {P X : List ℕ} {n : ℕ} {m en z : List ℕ} {head done j t : ℕ} {l e f w l' e' f' w' : List ℕ} {tail started left tail' started' : ℕ}
    → (b : Between P X n m en z head done j t l e f w tail started left) → Sweep P X n b.cut_at m en z head done j t l' e' f' w' tail' started' 0
    → Between P X n m en z head done j t l' e' f' w' tail' started' 0
looked b i = record { cut_at = b.cut_at; few = b.few; state = i }

-- ---- the time moves on to the first finish
module _ {P X : List ℕ} {n : ℕ} {m en z : List ℕ} {head done j t : ℕ} {l e f w : List ℕ} {tail started : ℕ}
    (b : Between P X n m en z head done j t l e f w tail started 0) (h : head < tail) where
  -- its number is that of a segment
  pub move-low : j < 64
  move-low = let a = head-low b.state h in let d = b.few in omega arith

  -- the cuts so far stay, and one more is there
  then : ℕ → ℕ
  then a = pick (ltb j a) (at e (at l head)) (b.cut_at a)

  same : (a : ℕ) → a ≤ j → then a ≡ b.cut_at a
  unfolding then
  same a g = rw (le-ltb j a g)

  next : then (suc j) ≡ at e (at l head)
  unfolding then
  next = rw (lt-ltb j (suc j) (le_refl (suc j)))

  move_all : done < 2 ^ 64 → t < at e (at l head)
      → Sweep P X n then (set m j (size (bit_and started (2 ^ 64 - 1 - done)))) (set en j (at l head)) z head done (j + 1) (at e (at l head)) l e f w tail started 0
  move_all word up = let i = b.state in record {
    fits = i.fits;
    tidy = i.tidy;
    light = i.light;
    queue = i.queue;
    times = move-times i.queue i.times i.cuts h up same next;
    woken = wake-later i.woken (at e (at l head));
    cuts = move-cuts i.queue i.times i.cuts h up same next i.fits word move-low;
  }

  -- after the call that may move it on, the time is that of the first finish
  pub record Onward (m' en' : List ℕ) (j' t' : ℕ) : Type 0 where
    pub cut_at : ℕ → ℕ
    pub few : j' ≤ head + 1
    pub time : at e (at l head) ≡ t'
    pub state : Sweep P X n cut_at m' en' z head done j' t' l e f w tail started 0

  pub onward : {m' en' : List ℕ} {j' t' : ℕ} → done < 2 ^ 64
      → MovedOn j t (at l head) (at e (at l head)) (size (bit_and started (2 ^ 64 - 1 - done))) m en m' en' j' t' → Onward m' en' j' t'
  onward word (inl x) = rw (x.number, x.time, x.counts, x.enders) (record {
    cut_at = then;
    few = let a = b.few in omega arith;
    time = refl;
    state = move_all word x.up;
  })
  onward word (inr x) = rw (x.number, x.time, x.counts, x.enders) (record {
    cut_at = b.cut_at;
    few = let a = b.few in omega arith;
    time = le_antisymm x.stop (b.state.times.ahead (at l head) (head-started b.state.queue h) (head-undone b.state.queue h));
    state = b.state;
  })

-- The queue: a node that starts is put behind all that are done, because it finishes at the present time or later; so its parents, which are
-- done, stand before it, and the queue is an order of the started nodes.
use mathlib.Core.Path.{◌≡◌, sym, ap, ◌∙◌}
use mathlib.Core.Logic.{◌⊎◌, inl, inr, ⊎_elim}
use mathlib.Core.List.{List}
use Prim.Native.Nat.{ℕ, ◌+◌, ◌-◌, ◌^◌, ◌≤◌, ◌<◌}
use native.Mathlib.Nat.{le_refl, le_of_lt, ne_of_lt}
use native.Mathlib.Decide.{ℕ_discrete}
use native.Mathlib.Omega.{arith}
use borrow.Author.Count.{below_more}
use Rattle.plain.specs.At.{at}
use Rattle.plain.proofs.Lists.{lt-or-ge}
use Rattle.sets.specs.Member.{bit, Member}
use Rattle.sets.specs.Inner.Put.{with_member}
use Rattle.sets.proofs.Bits.{mem-or, not-mem, mem-or-l, put_same, put_other, with-or}
use Rattle.sets.proofs.Sizes.{size-put, size-lt}
use Rattle.ways.specs.Inner.Order.{Ordered}
use Rattle.queues.specs.Inner.Putting.{Rising, PutAt}
use Rattle.diagrams.specs.Inner.Sweep.{Subset, Queue}

module _ {P : List ℕ} {n : ℕ} {l : List ℕ} {head done tail started : ℕ} (q : Queue P n l head done tail started) where
  -- who is done has started, and is a node
  pub done-started : (v : ℕ) → Member v done → Member v started
  done-started v m =
      let w = q.listed v m in
      ap (λ (x : ℕ). bit x started) (sym w.2) ∙ q.settled.held w.0 (let a = w.1 in let b = q.within in omega arith)

  pub started-lt : (v : ℕ) → Member v started → v < n
  started-lt v m = let w = q.settled.listed v m in rw (← w.2) (q.settled.order.node w.0 w.1)

  -- there is room where a node has not started
  pub queue-room : (v : ℕ) → v < n → bit v started ≡ 0 → tail < n
  queue-room v h z = let a = size-lt n started v h z in let b = q.settled.size in omega arith

  -- the first entry that is not done
  module _ (h : head < tail) where
    pub head-started : Member (at l head) started
    head-started = q.settled.held head h

    pub head-undone : bit (at l head) done ≡ 0
    head-undone = ⊎_elim
        (λ (m : Member (at l head) done). let w = q.listed (at l head) m in absurd (ne_of_lt w.1 (q.settled.order.once w.0 head (let a = w.1 in omega arith) h w.2)))
        (λ (z : bit (at l head) done ≡ 0). z)
        (mem-or (at l head) done)

    -- is done
    pub queue-pop : Queue P n l (head + 1) (with_member (at l head) done) tail started
    queue-pop = rw (with-or (at l head) done) (record {
      settled = q.settled;
      within = omega arith;
      held = below_more (λ i. Member (at l i) _) head (λ i k. mem-or-l (at l i) done (2 ^ at l head) (q.held i k)) (put_same done (at l head));
      listed = λ k m. elim (ℕ_discrete k (at l head)) [
        | yes e ↦ (head, omega arith, sym e)
        | no ne ↦ (let w = q.listed k (sym (put_other done (at l head) k ne) ∙ m) in (w.0, (let a = w.1 in omega arith), w.2))
      ];
    })

    -- who has started and is not done stands there or behind it
    pub queue-behind : (v : ℕ) → Member v started → bit v done ≡ 0 → (i : ℕ) × (head ≤ i) × (i < tail) × (at l i ≡ v)
    queue-behind v m z = let w = q.settled.listed v m in ⊎_elim
        (λ (g : w.0 < head). absurd (not-mem z (ap (λ (x : ℕ). bit x done) (sym w.2) ∙ q.held w.0 g)))
        (λ (g : head ≤ w.0). (w.0, g, w.1, w.2))
        (lt-or-ge w.0 head)

  -- x put in at place k
  module _ {T : ℕ → ℕ} {x : ℕ} {m : List ℕ} {k : ℕ} (p : PutAt T tail x l m k) where
    -- behind all that are done, where these are not later than t, and x is not before t
    pub put-behind : (t : ℕ) → ((i : ℕ) → i < head → T (at l i) ≤ t) → t ≤ T x → head ≤ k
    put-behind t f g = ⊎_elim
        (λ (h : k < head). let a = p.late k (le_refl k) (let b = q.within in omega arith) in let b = f k h in absurd (omega arith))
        (λ (h : head ≤ k). h)
        (lt-or-ge k head)

    -- an entry is x, or comes from the old list
    abbrev Old : ℕ → Type 0
    Old i = (o : ℕ) × (o < tail) × (at m i ≡ at l o) × (i ≡ o + (1 - (k - o)))

    from : (i : ℕ) → i < tail + 1 → (i ≡ k) ⊎ Old i
    from i h = elim (ℕ_discrete i k) [
      | yes e ↦ inl e
      | no ne ↦ inr (go ne (lt-or-ge i k))
    ]
      where
        go : (i ≡ k → ⊥) → (i < k) ⊎ (k ≤ i) → Old i
        go ne (inl a) = let b = p.within in (i, omega arith, p.front i a, omega arith)
        go ne (inr a) = (i - 1, omega arith, p.moved i (omega arith) (omega arith), omega arith)

    -- and each old entry is still there
    kept : (o : ℕ) → o < tail → at m (o + (1 - (k - o))) ≡ at l o
    kept o h = ⊎_elim
        (λ (a : o < k). let e : o + (1 - (k - o)) ≡ o = omega arith in rw e (p.front o a))
        (λ (a : k ≤ o). let e : o + (1 - (k - o)) ≡ o + 1 = omega arith in let f : o + 1 - 1 ≡ o = omega arith in rw e (p.moved (o + 1) (omega arith) (omega arith) ∙ ap (at l) f))
        (lt-or-ge o k)

    -- the list ascends still
    pub put-rising : Rising T tail l → Rising T (tail + 1) m
    put-rising r i j h g = go (from i (omega arith)) (from j g)
      where
        go : (i ≡ k) ⊎ Old i → (j ≡ k) ⊎ Old j → T (at m i) ≤ T (at m j)
        go (inl a) (inl b) = rw (a, b) (le_refl (T (at m k)))
        go (inl a) (inr b) = let e = b.3 in rw (a, p.here, b.2) (le_of_lt (p.late b.0 (omega arith) b.1))
        go (inr a) (inl b) = let e = a.3 in rw (b, p.here, a.2) (p.early a.0 (omega arith))
        go (inr a) (inr b) = let e = a.3 in let f = b.3 in rw (a.2, b.2) (r a.0 b.0 (omega arith) b.1)

    module _ (h : x < n) (z : bit x started ≡ 0) (after : head ≤ k) (up : Subset (at P x) done) where
      -- x was not there
      fresh : (o : ℕ) → o < tail → at l o ≡ x → ⊥
      fresh o g e = not-mem z (ap (λ (y : ℕ). bit y started) (sym e) ∙ q.settled.held o g)

      order : Ordered P n (tail + 1) m
      order = record {
        node = λ i g. ⊎_elim (λ (a : i ≡ k). rw (a, p.here) h) (λ (a : Old i). rw a.2 (q.settled.order.node a.0 a.1)) (from i g);
        once = λ i j a b e. once i j e (from i a) (from j b);
        after = λ i y g a. before i y a (from i g);
      }
        where
          once : (i j : ℕ) → at m i ≡ at m j → (i ≡ k) ⊎ Old i → (j ≡ k) ⊎ Old j → i ≡ j
          once i j e (inl a) (inl b) = a ∙ sym b
          once i j e (inl a) (inr b) = absurd (fresh b.0 b.1 (sym b.2 ∙ sym e ∙ ap (at m) a ∙ p.here))
          once i j e (inr a) (inl b) = absurd (fresh a.0 a.1 (sym a.2 ∙ e ∙ ap (at m) b ∙ p.here))
          once i j e (inr a) (inr b) =
              let s = q.settled.order.once a.0 b.0 a.1 b.1 (sym a.2 ∙ e ∙ b.2) in
              a.3 ∙ ap (λ (o : ℕ). o + (1 - (k - o))) s ∙ sym b.3

          before : (i y : ℕ) → Member y (at P (at m i)) → (i ≡ k) ⊎ Old i → (j : ℕ) × (j < i) × (at m j ≡ y)
          before i y a (inl e) =
              let w = q.listed y (up y (rw (e, p.here) at a)) in
              let b = w.1 in
              (w.0, omega arith, p.front w.0 (omega arith) ∙ w.2)
          before i y a (inr o) =
              let w = q.settled.order.after o.0 y o.1 (rw o.2 at a) in
              let b = w.1 in
              let e = o.3 in
              let f = o.1 in
              (w.0 + (1 - (k - w.0)), omega arith, kept w.0 (omega arith) ∙ w.2)

      -- so it is the queue with x started
      pub queue-put : Queue P n m head done (tail + 1) (with_member x started)
      queue-put = rw (with-or x started) (record {
        settled = record {
          room = p.room;
          order = order;
          size = size-put n started x h z ∙ (let e = q.settled.size in omega arith);
          held = λ i g. ⊎_elim
              (λ (a : i ≡ k). rw (a, p.here) (put_same started x))
              (λ (a : Old i). rw a.2 (mem-or-l (at l a.0) started (2 ^ x) (q.settled.held a.0 a.1)))
              (from i g);
          listed = λ y a. elim (ℕ_discrete y x) [
            | yes e ↦ (k, (let b = p.within in omega arith), p.here ∙ sym e)
            | no ne ↦ (let w = q.settled.listed y (sym (put_other started x y ne) ∙ a) in let b = w.1 in (w.0 + (1 - (k - w.0)), omega arith, kept w.0 w.1 ∙ w.2))
          ];
        };
        within = let a = q.within in omega arith;
        held = λ i g. rw (p.front i (omega arith)) (q.held i g);
        listed = λ y a. let w = q.listed y a in let b = w.1 in (w.0, w.1, p.front w.0 (omega arith) ∙ w.2);
      })

-- Sums over segments: a segment ends by a node's finish just where it ends by its start or the node runs through it, so what a node gets is
-- D(finish) less D(start), with D(t) the sum over the segments that end by t; at lengths D(t) is t itself.
use mathlib.Core.Path.{◌≡◌, sym, ap, ◌∙◌}
use mathlib.Core.Logic.{◌⊎◌, inl, inr, ⊎_elim}
use Prim.Native.Nat.{ℕ, zero, suc, ◌+◌, ◌*◌, ◌≤◌, ◌<◌, suc-le-suc, min}
use native.Mathlib.Nat.{le_trans, add-mul, mul_assoc, mul-le-mul_left, mul-le-mul_right}
use native.Mathlib.Omega.{arith}
use Rattle.plain.specs.Pick.{up_to}
use Rattle.plain.specs.Sums.{sum_to}
use Rattle.plain.proofs.Lists.{lt-or-ge}
use Rattle.plain.proofs.Sums.{sum_same, sum_mono, sum-zero, sum-add, sum-mul, sum-swap}
use Rattle.sets.specs.Member.{bit, Member}
use Rattle.sets.proofs.Bits.{mem-or}
use Rattle.segments.specs.Cut.{cut, segments, length_of}
use Rattle.segments.specs.Running.{runs, running, threads}
use Rattle.segments.specs.Inner.Diagram.{Diagram}
use Rattle.segments.specs.Share.{share}
use Rattle.segments.specs.Inner.By.{by}
use Rattle.plain.proofs.Flags.{up_to-is, up_to-yes, up_to-no, up_to-flag, times-one, times_zero, times-flag}
use Rattle.segments.proofs.Cuts.{Mark, gap, cut-none}
use Rattle.segments.proofs.Segments.{cut-end, segment-up, length_of-cuts, mark-le}
use Rattle.segments.proofs.Running.{bit-running, runs-started, runs-late, threads-is}
use Rattle.segments.proofs.Diagram.{start-mark, finish-mark}

module _ (n : ℕ) (F f : ℕ → ℕ) where
  -- D grows with t
  pub by-mono : (t u : ℕ) → t ≤ u → by n F f t ≤ by n F f u
  unfolding by
  by-mono t u h = sum_mono (segments n F) _ _ (λ j l. mul-le-mul_right (f j) (let a = up_to-is (cut n F (suc j)) t in let b = up_to-is (cut n F (suc j)) u in omega arith))

  -- from 0 at 0
  pub by_zero : by n F f 0 ≡ 0
  unfolding by
  by_zero = sum_same (segments n F) _ (λ j. 0) (λ j l. times_zero (f j) (up_to-no (let u = segment-up n F j l in omega arith))) ∙ sum-zero (segments n F)

  -- up to at most the whole sum
  pub by_le : (t : ℕ) → by n F f t ≤ sum_to (segments n F) f
  unfolding by
  by_le t = sum_mono (segments n F) _ f (λ j l. times-flag (f j) (up_to-flag (cut n F (suc j)) t))

module _ (n : ℕ) (F : ℕ → ℕ) {t : ℕ} (m : Mark n F t) where
  -- of the first k segments, those that end by a finish are as long as it is late
  length-by : (k : ℕ) → sum_to k (λ j. up_to (cut n F (suc j)) t * length_of n F j) ≡ min t (cut n F k)
  unfolding sum_to
  length-by zero = let a = cut-none n F in omega arith
  length-by (suc k) = let ih = length-by k in ⊎_elim
      (λ (h : t < cut n F (suc k)). let x = times_zero (length_of n F k) (up_to-no h) in ⊎_elim (λ g. omega arith) (λ g. absurd (omega arith)) (gap n F m k))
      (λ (h : cut n F (suc k) ≤ t). let x = times-one (length_of n F k) (up_to-yes h) in let c = length_of-cuts n F k in omega arith)
      (lt-or-ge t (cut n F (suc k)))

  -- D at lengths is the time itself
  pub by_lengths : by n F (length_of n F) t ≡ t
  unfolding by
  by_lengths = length-by (segments n F) ∙ (let a = cut-end n F in let b = mark-le n F m in omega arith)

module _ (n : ℕ) (S F : ℕ → ℕ) where
  -- a share hangs on what is given to the segments that the node runs in
  pub share-same : (f g : ℕ → ℕ) (v : ℕ) → ((j : ℕ) → j < segments n F → Member v (running n S F j) → f j ≡ g j) → share n S F f v ≡ share n S F g v
  unfolding share
  share-same f g v e = sum_same (segments n F) _ _ (λ j l. ⊎_elim
      (λ (m : Member v (running n S F j)). ap (λ (x : ℕ). bit v (running n S F j) * x) (e j l m))
      (λ (z : bit v (running n S F j) ≡ 0). times_zero (f j) z ∙ sym (times_zero (g j) z))
      (mem-or v (running n S F j)))

  -- a node gets no less where each segment is given no less
  pub share-mono : (f g : ℕ → ℕ) → ((j : ℕ) → j < segments n F → f j ≤ g j) → (v : ℕ) → share n S F f v ≤ share n S F g v
  unfolding share
  share-mono f g h v = sum_mono (segments n F) _ _ (λ j l. mul-le-mul_left (bit v (running n S F j)) (h j l))

  -- and c times as much where each is given c times as much
  pub share-scale : (f : ℕ → ℕ) (c v : ℕ) → share n S F (λ j. f j * c) v ≡ share n S F f v * c
  unfolding share
  share-scale f c v = sum_same (segments n F) _ _ (λ j l. sym (mul_assoc (bit v (running n S F j)) (f j) c)) ∙ sum-mul (segments n F) (λ j. bit v (running n S F j) * f j) c

  -- threads count each node once in each segment that it runs in
  pub shares_sum : n ≤ 64 → (f : ℕ → ℕ) → sum_to (segments n F) (λ j. threads n S F j * f j) ≡ sum_to n (share n S F f)
  unfolding share
  shares_sum few f =
      sum_same (segments n F) _ _ (λ j l. ap (λ (x : ℕ). x * f j) (ones j) ∙ sym (sum-mul n (λ v. bit v (running n S F j)) (f j)))
      ∙ sum-swap (segments n F) n (λ j v. bit v (running n S F j) * f j)
    where
      ones : (j : ℕ) → threads n S F j ≡ sum_to n (λ v. bit v (running n S F j))
      ones j = threads-is n S F few j ∙ sym (sum_same n _ _ (λ v h. bit-running n S F j v h))

module _ {n : ℕ} {S F X : ℕ → ℕ} (d : Diagram n S F X) where
  -- what a node gets, with D(start), is D(finish)
  pub share-by : (f : ℕ → ℕ) (v : ℕ) → v < n → share n S F f v + by n F f (S v) ≡ by n F f (F v)
  unfolding share by
  share-by f v h =
      sym (sum-add (segments n F) (λ j. bit v (running n S F j) * f j) (λ j. up_to (cut n F (suc j)) (S v) * f j))
      ∙ sum_same (segments n F) _ _ (λ j l. sym (add-mul (bit v (running n S F j)) (up_to (cut n F (suc j)) (S v)) (f j)) ∙ ap (λ (x : ℕ). x * f j) (each j l))
    where
      each : (j : ℕ) → j < segments n F → bit v (running n S F j) + up_to (cut n F (suc j)) (S v) ≡ up_to (cut n F (suc j)) (F v)
      each j l = go (bit-running n S F j v h) (segment-up n F j l) (d.ends v h) (gap n F (start-mark d v h) j)
        where
          go : bit v (running n S F j) ≡ runs (S v) (F v) (cut n F j) (cut n F (suc j)) → cut n F j < cut n F (suc j) → F v ≡ S v + X v
              → (S v ≤ cut n F j) ⊎ (cut n F (suc j) ≤ S v)
              → bit v (running n S F j) + up_to (cut n F (suc j)) (S v) ≡ up_to (cut n F (suc j)) (F v)
          go b u q (inl g) = let r = runs-started (F v) (cut n F (suc j)) g in let z = up_to-no (le_trans (suc-le-suc g) u) in omega arith
          go b u q (inr g) = let r = runs-late (F v) (cut n F (suc j)) (le_trans u g) in let y = up_to-yes g in let z = up_to-yes {a = cut n F (suc j)} {b = F v} (omega arith) in omega arith

  -- a node's segments are as long as its execution
  pub share-lengths : (v : ℕ) → v < n → share n S F (length_of n F) v ≡ X v
  share-lengths v h =
      let a = share-by (length_of n F) v h in
      let b = by_lengths n F (start-mark d v h) in
      let c = by_lengths n F (finish-mark d v h) in
      let e = d.ends v h in
      omega arith

  -- threads times lengths make the work
  pub work-sum : n ≤ 64 → sum_to (segments n F) (λ j. threads n S F j * length_of n F j) ≡ sum_to n X
  work-sum few = shares_sum n S F few (length_of n F) ∙ sum_same n _ _ (λ v h. share-lengths v h)

  module _ (f : ℕ → ℕ) where
    -- a node without execution gets nothing
    pub share-idle : (v : ℕ) → v < n → X v ≡ 0 → share n S F f v ≡ 0
    share-idle v h e = let a = share-by f v h in let b = ap (by n F f) (same (d.ends v h)) in omega arith
      where
        same : F v ≡ S v + X v → F v ≡ S v
        same q = omega arith

    -- at least half of its execution, where each segment gets at least half of its length
    pub share-half : (Q : ℕ) → ((j : ℕ) → j < segments n F → length_of n F j * Q ≤ f j * 2) → (v : ℕ) → v < n → X v * Q ≤ share n S F f v * 2
    share-half Q h v l =
        let a = share-mono n S F (λ j. length_of n F j * Q) (λ j. f j * 2) h v in
        let b = share-scale n S F (length_of n F) Q v in
        let c = share-scale n S F f 2 v in
        let e = ap (λ (x : ℕ). x * Q) (share-lengths v l) in
        omega arith

    -- and just half, where each segment that it runs in gets just half of its length
    pub share-halved : (Q v : ℕ) → v < n → ((j : ℕ) → j < segments n F → Member v (running n S F j) → length_of n F j * Q ≡ f j * 2) → X v * Q ≡ share n S F f v * 2
    share-halved Q v l h =
        ap (λ (x : ℕ). x * Q) (sym (share-lengths v l))
        ∙ sym (share-scale n S F (length_of n F) Q v)
        ∙ share-same n S F (λ j. length_of n F j * Q) (λ j. f j * 2) v h
        ∙ share-scale n S F f 2 v

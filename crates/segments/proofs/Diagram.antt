-- A timing diagram's segments: every start is 0 or a finish, so a node cannot start or finish inside a segment; and whatever finishes at a
-- segment's end runs in it, or its start is that end too and the node that it waited for is looked at instead.
use mathlib.Core.Path.{◌≡◌, refl, sym, ◌∙◌}
use mathlib.Core.Logic.{◌⊎◌, inl, inr, ⊎_elim}
use Prim.Native.Nat.{ℕ, zero, suc, ◌+◌, ◌≤◌, ◌<◌}
use native.Mathlib.Nat.{not-suc-le-zero, le_refl}
use native.Mathlib.Omega.{arith}
use Rattle.plain.proofs.Lists.{lt-or-ge}
use Rattle.sets.specs.Member.{bit}
use Rattle.segments.specs.Cut.{cut, segments}
use Rattle.segments.specs.Running.{running, threads}
use Rattle.segments.specs.Inner.Diagram.{Diagram}
use Rattle.segments.proofs.Cuts.{Mark, gap, cut-mark}
use Rattle.segments.proofs.Segments.{mark-cut, segment-up}
use Rattle.segments.proofs.Running.{bit-running, run_in, runs-late, runs-early, threads-pos}

module _ {n : ℕ} {S F X : ℕ → ℕ} (d : Diagram n S F X) where
  -- every start and every finish is 0 or a finish
  pub start-mark : (v : ℕ) → v < n → Mark n F (S v)
  start-mark v h = ⊎_elim (λ (e : S v ≡ 0). inl e) (λ w. inr (w.0, w.1, w.2)) (d.begins v h)

  pub finish-mark : (v : ℕ) → v < n → Mark n F (F v)
  finish-mark v h = inr (v, h, refl)

  -- so every start and every finish is a cut
  pub start-cut : (v : ℕ) → v < n → (j : ℕ) × (j ≤ segments n F) × (cut n F j ≡ S v)
  start-cut v h = mark-cut n F (start-mark v h)

  pub finish-cut : (v : ℕ) → v < n → (j : ℕ) × (j ≤ segments n F) × (cut n F j ≡ F v)
  finish-cut v h = mark-cut n F (finish-mark v h)

  -- a node without execution runs in no segment
  pub idle-out : (j v : ℕ) → j < segments n F → v < n → X v ≡ 0 → bit v (running n S F j) ≡ 0
  idle-out j v l h e =
      let q = d.ends v h in
      let u = segment-up n F j l in
      bit-running n S F j v h
      ∙ ⊎_elim
      (λ (a : cut n F j < S v). runs-late (F v) (cut n F (suc j)) a)
      (λ (a : S v ≤ cut n F j). runs-early (S v) (cut n F j) (omega arith))
      (lt-or-ge (cut n F j) (S v))

  -- some node runs in segment j up to its end
  abbrev Found : ℕ → Type 0
  Found j = (w : ℕ) × (w < n) × (S w ≤ cut n F j) × (F w ≡ cut n F (suc j))

  -- from a node that finishes at a segment's end, back along the order to one that runs in the segment
  behind : (j k v : ℕ) → v < n → d.rank v < k → cut n F j < F v → cut n F (suc j) ≡ F v → Found j
  behind j zero v h r l e = absurd (not-suc-le-zero r)
  behind j (suc k) v h r l e = go (behind j k) (d.ends v h) (gap n F (start-mark v h) j) (d.begins v h)
    where
      go : ((p : ℕ) → p < n → d.rank p < k → cut n F j < F p → cut n F (suc j) ≡ F p → Found j)
          → F v ≡ S v + X v → (S v ≤ cut n F j) ⊎ (cut n F (suc j) ≤ S v)
          → (S v ≡ 0) ⊎ ((p : ℕ) × (p < n) × (S v ≡ F p) × (d.rank p < d.rank v)) → Found j
      go ih q (inl a) z = (v, h, a, sym e)
      go ih q (inr a) (inl z) = absurd (omega arith)
      go ih q (inr a) (inr w) = let p = w.2 in let g = w.3 in ih w.0 w.1 (omega arith) (omega arith) (omega arith)

  -- such a node is in every segment
  pub some-ends : (j : ℕ) → j < segments n F → Found j
  some-ends j l = go (cut-mark n F (suc j)) (segment-up n F j l)
    where
      go : Mark n F (cut n F (suc j)) → cut n F j < cut n F (suc j) → Found j
      go (inl z) u = absurd (omega arith)
      go (inr w) u = let e = w.2 in behind j (suc (d.rank w.0)) w.0 w.1 (le_refl (suc (d.rank w.0))) (omega arith) e

  -- so every segment has a thread
  pub some-thread : n ≤ 64 → (j : ℕ) → j < segments n F → 0 < threads n S F j
  some-thread few j l = let w = some-ends j l in let e = w.3 in
      threads-pos n S F few j w.0 w.1 (run_in n S F j w.0 w.1 w.2 (omega arith))

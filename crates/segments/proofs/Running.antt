-- Who runs in a segment: a node's digit in the set is its test, so the ones are the nodes that run.
use mathlib.Core.Path.{◌≡◌, ap, ◌∙◌}
use mathlib.Core.Logic.{⊎_elim}
use mathlib.Core.Bool.{Bool, ◌&&◌}
use Prim.Native.Nat.{ℕ, suc, ◌≤◌, ◌<◌}
use native.Mathlib.Omega.{arith}
use lib.Dec.{leb}
use borrow.Author.Tests.{le-leb, lt-leb}
use Rattle.plain.specs.Pick.{one, up_to}
use Rattle.plain.specs.Sums.{sum_to}
use Rattle.plain.proofs.Lists.{lt-or-ge}
use Rattle.sets.specs.Member.{bit, Member}
use Rattle.sets.proofs.Bits.{bit-zero, not-mem}
use Rattle.sets.proofs.Sizes.{size-full, size_less, size_none}
use Rattle.sets.proofs.Rule.{bit-set}
use Rattle.segments.specs.Cut.{cut}
use Rattle.segments.specs.Running.{runs, running_in, running, threads}
use Rattle.plain.proofs.Flags.{up_to-is, up_to-yes, up_to-no}
use Rattle.segments.proofs.Sets.{size-set}

-- a node that has started by a runs on to b where it does not finish before
pub runs-started : (f b : ℕ) {s a : ℕ} → s ≤ a → runs s f a b ≡ up_to b f
unfolding runs up_to
runs-started f b {s} {a} h = ap (λ (x : Bool). one (x && leb b f)) (le-leb s a h)

-- one that has not started by a does not run there
pub runs-late : (f b : ℕ) {s a : ℕ} → a < s → runs s f a b ≡ 0
unfolding runs
runs-late f b {s} {a} h = ap (λ (x : Bool). one (x && leb b f)) (lt-leb s a h)

-- one that finishes before b does not run through to it
pub runs-early : (s a : ℕ) {f b : ℕ} → f < b → runs s f a b ≡ 0
runs-early s a {f} {b} h = ⊎_elim (λ (l : a < s). runs-late f b l) (λ (l : s ≤ a). runs-started f b l ∙ up_to-no h) (lt-or-ge a s)

-- where the test holds
pub runs-yes : {s f a b : ℕ} → s ≤ a → b ≤ f → runs s f a b ≡ 1
runs-yes {s} {f} {a} {b} h k = runs-started f b h ∙ up_to-yes k

-- it says 0 or 1
pub runs-flag : (s f a b : ℕ) → runs s f a b ≤ 1
runs-flag s f a b = ⊎_elim
    (λ (h : a < s). let e = runs-late f b h in omega arith)
    (λ (h : s ≤ a). let e = runs-started f b h in let u = up_to-is b f in omega arith)
    (lt-or-ge a s)

module _ (n : ℕ) (S F : ℕ → ℕ) where
  -- the node's test in segment j
  abbrev runner : (j v : ℕ) → ℕ
  runner j v = runs (S v) (F v) (cut n F j) (cut n F (suc j))

  flag : (j v : ℕ) → runner j v ≤ 1
  flag j v = runs-flag (S v) (F v) (cut n F j) (cut n F (suc j))

  -- a node's digit in the running set is its test
  pub bit-running : (j v : ℕ) → v < n → bit v (running n S F j) ≡ runs (S v) (F v) (cut n F j) (cut n F (suc j))
  unfolding running running_in
  bit-running j v h = bit-set (runner j) (flag j) n v h

  -- v is in the set where it has started by the segment's begin and does not finish before its end
  pub run_in : (j v : ℕ) → v < n → S v ≤ cut n F j → cut n F (suc j) ≤ F v → Member v (running n S F j)
  run_in j v h a b = bit-running j v h ∙ runs-yes a b

  -- the threads are the number of nodes that run there
  pub threads-is : n ≤ 64 → (j : ℕ) → threads n S F j ≡ sum_to n (λ v. runs (S v) (F v) (cut n F j) (cut n F (suc j)))
  unfolding threads running running_in
  threads-is few j = size-set (runner j) (flag j) n few

  -- at most the digits of a word
  pub threads-word : (j : ℕ) → threads n S F j ≤ 64
  unfolding threads
  threads-word j = size-full 64 (running n S F j)

  -- at least one where some node runs
  pub threads-pos : n ≤ 64 → (j v : ℕ) → v < n → Member v (running n S F j) → 0 < threads n S F j
  unfolding threads
  threads-pos few j v h m =
      let a = size_less 64 0 (running n S F j) v (λ k q. absurd (not-mem (bit-zero k) q)) (omega arith) m (bit-zero v) in
      let z = size_none 64 in
      omega arith

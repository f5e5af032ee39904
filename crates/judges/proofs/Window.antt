-- A node runs in a segment just where it runs through it in stretched time. The cuts ascend, and so do the sums of our own numerators up to them, since none of these is
-- 0; so one of two cuts is the earlier exactly where its sum is the smaller, and a node's offset and its end are the sums at the cuts of its start and its finish.
use mathlib.Core.Path.{◌≡◌, refl, sym, ap, ap₂, ◌∙◌}
use mathlib.Core.Logic.{⊎_elim}
use mathlib.Core.Bool.{Bool, ◌&&◌}
use mathlib.Core.List.{List}
use Prim.Native.Nat.{ℕ, zero, suc, ◌+◌, ◌*◌, ◌≤◌, ◌<◌}
use native.Mathlib.Nat.{mul-pos, eq-or-lt_of_le, le_of_suc-le-suc}
use native.Mathlib.Omega.{arith}
use lib.Dec.{leb}
use borrow.Author.Tests.{le-leb, lt-leb}
use Rattle.plain.specs.At.{at}
use Rattle.plain.specs.Pick.{one}
use Rattle.plain.specs.Sums.{sum_to}
use Rattle.plain.proofs.Lists.{lt-or-ge}
use Rattle.plain.proofs.Sums.{sum_same}
use Rattle.tables.specs.declared.TaskTable.{TaskTable}
use Rattle.sets.specs.Member.{bit}
use Rattle.segments.specs.Cut.{cut}
use Rattle.segments.specs.Running.{runs, running}
use Rattle.segments.specs.Share.{share}
use Rattle.segments.specs.Inner.By.{by}
use Rattle.segments.proofs.Segments.{segment-up}
use Rattle.segments.proofs.Running.{bit-running}
use Rattle.segments.proofs.Diagram.{start-cut, finish-cut}
use Rattle.diagrams.proofs.Spans.{by-cut}
use Rattle.shares.specs.Words.{numerator_at, offset_at, deadline_at}
use Rattle.shares.proofs.Fair as fair
use Rattle.plans.specs.Diagram.{start, finish, segment_count}
use Rattle.plans.specs.Shares.{numerator_of, deadline, offset}
use Rattle.plans.specs.Words.{written}
use Rattle.plans.specs.Inner.Planned.{Planned}
use Rattle.plans.proofs.Table.{drawn, cutting}
use Rattle.plans.proofs.Kept.{offset-by, ends_by}
use Rattle.plans.proofs.Read.{at-segments, at_offset, at-deadline, segments-held}
use Rattle.rules.specs.Inner.Own.{begins_at, windowed}

-- what ascends up to s keeps the order of its places
module _ (g : ℕ → ℕ) (s : ℕ) (up : (j : ℕ) → j < s → g j < g (suc j)) where
  ascends : (i k : ℕ) → i < k → k ≤ s → g i < g k
  ascends i zero l h = absurd (omega arith)
  ascends i (suc k) l h = ⊎_elim
      (λ (e : i ≡ k). rw e (up k h))
      (λ (b : i < k). let a = ascends i k b (omega arith) in let u = up k h in omega arith)
      (eq-or-lt_of_le (le_of_suc-le-suc l))

  order : (i k : ℕ) → i ≤ s → k ≤ s → leb (g i) (g k) ≡ leb i k
  order i k a b = ⊎_elim
      (λ (h : k < i). lt-leb (g i) (g k) (ascends k i h a) ∙ sym (lt-leb i k h))
      (λ (h : i ≤ k). le-leb (g i) (g k) (⊎_elim (λ (e : i ≡ k). rw e (omega arith)) (λ (l : i < k). let u = ascends i k l b in omega arith) (eq-or-lt_of_le h)) ∙ sym (le-leb i k h))
      (lt-or-ge k i)

-- who runs hangs on the order of the times alone
runs-order : (s f a b s' f' a' b' : ℕ) → leb s a ≡ leb s' a' → leb b f ≡ leb b' f' → runs s f a b ≡ runs s' f' a' b'
unfolding runs
runs-order s f a b s' f' a' b' p q = ap₂ (λ (x y : Bool). one (x && y)) p q

module _ {t : TaskTable} (ok : Planned t) where
  abbrev D : ℕ → ℕ
  D = by t.count (finish t) (numerator_of t)

  -- every segment is given something
  numerator-some : (j : ℕ) → j < segment_count t → 0 < numerator_of t j
  unfolding numerator_of
  numerator-some j h = let a = fair.half (cutting ok) j h in let b = mul-pos ((cutting ok).lengths j h) (fair.over-some (cutting ok)) in omega arith

  sums-up : (j : ℕ) → j < segment_count t → sum_to j (numerator_of t) < sum_to (suc j) (numerator_of t)
  unfolding sum_to
  sums-up j h = let a = numerator-some j h in omega arith

  -- of two cuts, the earlier is the earlier in stretched time
  ordered : {a b : ℕ} (i k : ℕ) → i ≤ segment_count t → k ≤ segment_count t → cut t.count (finish t) i ≡ a → cut t.count (finish t) k ≡ b → leb (D a) (D b) ≡ leb a b
  ordered i k p q e f =
      rw (← e, ← f)
      (ap₂ leb (by-cut t.count (finish t) (numerator_of t) i p) (by-cut t.count (finish t) (numerator_of t) k q)
      ∙ order (λ j. sum_to j (numerator_of t)) (segment_count t) sums-up i k p q
      ∙ sym (order (cut t.count (finish t)) (segment_count t) (segment-up t.count (finish t)) i k p q))

  module _ (old : List ℕ) where
    abbrev own : List ℕ
    own = written t old

    begins-so : (j : ℕ) → j ≤ segment_count t → begins_at own j ≡ sum_to j (numerator_of t)
    begins-so j h = sum_same j (numerator_at own) (numerator_of t) (λ k l. (segments-held t old).numerators k (omega arith))

    begins-by : (j : ℕ) → j ≤ segment_count t → begins_at own j ≡ D (cut t.count (finish t) j)
    begins-by j h = begins-so j h ∙ sym (by-cut t.count (finish t) (numerator_of t) j h)

    pub offset-own : (v : ℕ) → v < t.count → offset_at own v ≡ offset t v
    offset-own v l = ap (λ (s : ℕ). at own (3 + 3 * s + 3 * v)) (at-segments t old) ∙ at_offset t old v l

    pub deadline-own : (v : ℕ) → v < t.count → deadline_at own v ≡ deadline t v
    deadline-own v l = ap (λ (s : ℕ). at own (3 + 3 * s + (3 * v + 1))) (at-segments t old) ∙ at-deadline t old v l

    -- so a node runs in a segment in both times or in neither
    runs_own : (v j : ℕ) → v < t.count → j < segment_count t →
        runs (offset_at own v) (offset_at own v + deadline_at own v) (begins_at own j) (begins_at own (suc j)) ≡ bit v (running t.count (start t) (finish t) j)
    runs_own v j l h =
        let s = start-cut (drawn ok) v l in
        let f = finish-cut (drawn ok) v l in
        let from = offset-own v l ∙ offset-by ok v l in
        let to = ap₂ ◌+◌ (offset-own v l) (deadline-own v l) ∙ ends_by ok v l in
        runs-order _ _ _ _ _ _ _ _
        (ap₂ leb from (begins-by j (omega arith)) ∙ ordered s.0 j s.1 (omega arith) s.2 refl)
        (ap₂ leb (begins-by (suc j) h) to ∙ ordered (suc j) f.0 h f.1 refl f.2)
        ∙ sym (bit-running t.count (start t) (finish t) j v l)

    -- the sum over the segments that a node runs in, by our own plan's words
    term : (given : ℕ → ℕ) (v j : ℕ) → ℕ
    term given v j = runs (offset_at own v) (offset_at own v + deadline_at own v) (begins_at own j) (begins_at own (suc j)) * given j

    pub window-share : (given : ℕ → ℕ) (v : ℕ) → v < t.count → windowed own given v ≡ share t.count (start t) (finish t) given v
    unfolding windowed share term
    window-share given v l =
        ap (λ (s : ℕ). sum_to s (term given v)) (at-segments t old)
        ∙ sum_same (segment_count t) (term given v) _ (λ j h. ap (λ (x : ℕ). x * given j) (runs_own v j l h))

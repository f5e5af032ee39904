-- The segments: the cuts before the path come first and then all are at the path, so counting those before it gives the number of the cut
-- that is the path; every finish is at or before the path and so is met on the way.
use mathlib.Core.Path.{◌≡◌, refl, sym, ap, ◌∙◌}
use mathlib.Core.Logic.{◌⊎◌, inl, inr, ⊎_elim}
use Prim.Native.Nat.{ℕ, zero, suc, ◌+◌, ◌≤◌, ◌<◌, zero-le, suc-le-suc}
use native.Mathlib.Nat.{not-suc-le-zero, eq-or-lt_of_le, le_refl, add-zero}
use native.Mathlib.Omega.{arith}
use Rattle.plain.specs.Pick.{up_to}
use Rattle.plain.specs.Sums.{sum_to}
use Rattle.plain.proofs.Lists.{lt-or-ge}
use Rattle.segments.specs.Cut.{latest, cut, segments, length_of}
use Rattle.plain.proofs.Flags.{up_to-yes, up_to-no}
use Rattle.segments.proofs.Cuts.{Mark, cut-none, finish-le, cut-le, cut_up, cut_step, cut-mono, gap, cut-last}

module _ (n : ℕ) (F : ℕ → ℕ) where
  -- of the first k cuts, c lie before the path: the first c, and then either k is used up or the path is reached
  record Stops (k c : ℕ) : Type 0 where
    le : c ≤ k
    under : (i : ℕ) → i < c → cut n F i < latest n F
    end : (c ≡ k) ⊎ (cut n F c ≡ latest n F)

  -- one cut more, before the path or at it
  more-under : {k c : ℕ} → Stops k c → cut n F k < latest n F → Stops (suc k) (c + 1)
  more-under {k} {c} r h = go r.end
    where
      go : (c ≡ k) ⊎ (cut n F c ≡ latest n F) → Stops (suc k) (c + 1)
      go (inl q) = record {
        le = omega arith;
        under = λ i l. let a = cut-mono n F i k (omega arith) in omega arith;
        end = inl (omega arith);
      }
      go (inr q) = let a = cut-mono n F c k r.le in absurd (omega arith)

  more-end : {k c : ℕ} → Stops k c → latest n F ≤ cut n F k → Stops (suc k) c
  more-end {k} {c} r h = record {
    le = let l = r.le in omega arith;
    under = r.under;
    end = inr (⊎_elim (λ (q : c ≡ k). ap (cut n F) q ∙ (let a = cut-le n F k in omega arith)) (λ (q : cut n F c ≡ latest n F). q) r.end);
  }

  stops : (k : ℕ) → Stops k (sum_to k (λ j. up_to (suc (cut n F j)) (latest n F)))
  unfolding sum_to
  stops zero = record { le = zero-le; under = λ i h. absurd (not-suc-le-zero h); end = inl refl }
  stops (suc k) = ⊎_elim
      (λ (h : cut n F k < latest n F). rw (up_to-yes h) (more-under (stops k) h))
      (λ (h : latest n F ≤ cut n F k). rw (up_to-no (suc-le-suc h), add-zero) (more-end (stops k) h))
      (lt-or-ge (cut n F k) (latest n F))

  -- "There are at most n segments"
  pub segments-le : segments n F ≤ n
  unfolding segments
  segments-le = (stops n).le

  -- the last segment ends at the path
  pub cut-end : cut n F (segments n F) ≡ latest n F
  unfolding segments
  cut-end = ⊎_elim (λ q. ap (cut n F) q ∙ cut-last n F) (λ q. q) (stops n).end

  -- a segment begins before the path, and whatever cut does so begins one
  pub segment-before : (j : ℕ) → j < segments n F → cut n F j < latest n F
  unfolding segments
  segment-before j h = (stops n).under j h

  pub before-segment : (j : ℕ) → cut n F j < latest n F → j < segments n F
  before-segment j h = ⊎_elim
      (λ (l : j < segments n F). l)
      (λ (l : segments n F ≤ j). let a = cut-mono n F (segments n F) j l in let b = cut-end in absurd (omega arith))
      (lt-or-ge j (segments n F))

  -- a segment's end lies after its begin
  pub segment-up : (j : ℕ) → j < segments n F → cut n F j < cut n F (suc j)
  segment-up j h = cut_up n F j (segment-before j h)

  -- a walk that stops at the path, and not before, has met them all
  pub only-segments : (s : ℕ) → cut n F s ≡ latest n F → ((j : ℕ) → j < s → cut n F j < latest n F) → s ≡ segments n F
  only-segments s e f = ⊎_elim
      (λ (l : s < segments n F). let a = segment-before s l in absurd (omega arith))
      (λ (l : segments n F ≤ s). ⊎_elim (λ (q : segments n F ≡ s). sym q) (λ (q : segments n F < s). let a = f (segments n F) q in let b = cut-end in absurd (omega arith)) (eq-or-lt_of_le l))
      (lt-or-ge s (segments n F))

  -- 0 and every finish lies within the path
  pub mark-le : {t : ℕ} → Mark n F t → t ≤ latest n F
  mark-le (inl z) = omega arith
  mark-le (inr w) = let a = finish-le n F w.0 w.1 in let e = w.2 in omega arith

  -- what lies by a cut was met on the way
  found : {t : ℕ} → Mark n F t → (k : ℕ) → t ≤ cut n F k → (j : ℕ) × (j ≤ k) × (cut n F j ≡ t)
  found {t} m zero h = (0, zero-le, (let a = cut-none n F in omega arith))
  found {t} m (suc k) h = ⊎_elim
      (λ (l : t ≤ cut n F k). let w = found m k l in (w.0, (let a = w.1 in omega arith), w.2))
      (λ (l : cut n F (suc k) ≤ t). (suc k, le_refl (suc k), omega arith))
      (gap n F m k)

  -- and is a cut
  pub mark-cut : {t : ℕ} → Mark n F t → (j : ℕ) × (j ≤ segments n F) × (cut n F j ≡ t)
  mark-cut m = found m (segments n F) (let a = mark-le m in let b = cut-end in omega arith)

  -- from a cut by the length to the next
  pub length_of-cuts : (j : ℕ) → cut n F j + length_of n F j ≡ cut n F (suc j)
  unfolding length_of
  length_of-cuts j = let a = cut_step n F j in omega arith

  -- "length e_j > 0"
  pub length_of-pos : (j : ℕ) → j < segments n F → 0 < length_of n F j
  length_of-pos j h = let a = segment-up j h in let b = length_of-cuts j in omega arith

  -- the first k lengths sum to cut k
  pub lengths-to : (k : ℕ) → sum_to k (length_of n F) ≡ cut n F k
  unfolding sum_to
  lengths-to zero = sym (cut-none n F)
  lengths-to (suc k) = let ih = lengths-to k in let a = length_of-cuts k in omega arith

  -- all lengths sum to the path
  pub lengths-sum : sum_to (segments n F) (length_of n F) ≡ latest n F
  lengths-sum = lengths-to (segments n F) ∙ cut-end

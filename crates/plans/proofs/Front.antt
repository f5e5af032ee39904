-- The front of a plan: the cut's words with their numerators are triples behind three words, and writing the head puts Q, s and n there; all
-- past the segments is as it was lent.
use mathlib.Core.Path.{◌≡◌, refl, sym, ap, ◌∙◌}
use mathlib.Core.List.{List, [], ◌∷◌, ◌++◌, append_assoc}
use Prim.Native.Nat.{ℕ, ◌+◌, ◌*◌, ◌≤◌}
use native.Mathlib.Omega.{arith}
use lib.ListN.{length, set, take, drop, length-take, length-drop, length-append}
use lib.Seq.{ext_get_or, get_or-drop, drop_at, take_at, drop-drop}
use Rattle.tables.specs.declared.TaskTable.{TaskTable}
use Rattle.segments.specs.Inner.Words.{CutWords}
use Rattle.shares.specs.Triples.{triples}
use Rattle.shares.specs.Inner.Written.{Numbered}
use Rattle.shares.proofs.Holding.{HoldsSegments}
use Rattle.shares.proofs.Numbering.{numbered-holds, rest-same}
use Rattle.shares.proofs.Triples.{hold-triples, length-triples}
use Rattle.plans.specs.Diagram.{work, path, segment_count, threads_in, length_in}
use Rattle.plans.specs.Shares.{over, deal_of, numerator_of}
use Rattle.plans.specs.Words.{front_words, node_words, written}

-- three words written at the front
headed : (q s n : ℕ) (w : List ℕ) → 3 ≤ length w → set (set (set w 0 q) 1 s) 2 n ≡ (q ∷ s ∷ n ∷ []) ++ drop 3 w
headed q s n [] h = absurd (omega arith)
headed q s n (a ∷ []) h = absurd (omega arith)
headed q s n (a ∷ b ∷ []) h = absurd (omega arith)
headed q s n (a ∷ b ∷ c ∷ r) h = refl

module _ (t : TaskTable) {w₀ w₁ w₂ : List ℕ} (cut : CutWords (threads_in t) (length_in t) (segment_count t) w₀ w₁) (given : Numbered (deal_of t) t.period (work t) (path t) (segment_count t) w₁ w₂) (room : 3 + 3 * segment_count t ≤ length w₂) where
  -- the words hold the table's segments
  holds : HoldsSegments w₂ (segment_count t) (threads_in t) (length_in t) (numerator_of t)
  unfolding numerator_of
  holds = numbered-holds (threads_in t) (length_in t) cut.first cut.second given

  past : drop (3 + 3 * segment_count t) w₁ ≡ drop (3 + 3 * segment_count t) w₀
  past = ext_get_or 0 (drop (3 + 3 * segment_count t) w₁) (drop (3 + 3 * segment_count t) w₀) (simp length-drop (rw cut.room))
      (λ k h. get_or-drop (3 + 3 * segment_count t) w₁ k 0 ∙ cut.rest (3 + 3 * segment_count t + k) (omega arith) ∙ sym (get_or-drop (3 + 3 * segment_count t) w₀ k 0))

  -- what stands behind the head
  behind : drop 3 w₂ ≡ triples (threads_in t) (length_in t) (numerator_of t) (segment_count t) ++ drop (3 + 3 * segment_count t) w₀
  behind =
      let m = triples (threads_in t) (length_in t) (numerator_of t) (segment_count t) in
      let r = drop (3 + 3 * segment_count t) w₂ in
      ap (drop 3) (hold-triples (threads_in t) (length_in t) (numerator_of t) (segment_count t) room holds ∙ append_assoc (take 3 w₂) m r)
      ∙ drop_at (take 3 w₂) (m ++ r) 3 (simp length-take (omega arith))
      ∙ ap (λ (l : List ℕ). m ++ l) (rest-same given ∙ past)

  -- the words after the head is written
  pub fronted : {q s n : ℕ} → q ≡ over t → s ≡ segment_count t → n ≡ t.count → set (set (set w₂ 0 q) 1 s) 2 n ≡ front_words t ++ drop (3 + 3 * segment_count t) w₀
  unfolding front_words
  fronted {q} {s} {n} p e c =
      headed q s n w₂ (omega arith)
      ∙ rw (p, e, c, behind) (simp append_assoc)

-- how long the front is
pub length_front : (t : TaskTable) → length (front_words t) ≡ 3 + 3 * segment_count t
unfolding front_words
length_front t = length-append (over t ∷ segment_count t ∷ t.count ∷ []) (triples (threads_in t) (length_in t) (numerator_of t) (segment_count t)) ∙ ap (λ (k : ℕ). 3 + k) (length-triples (threads_in t) (length_in t) (numerator_of t) (segment_count t))

-- words with the plan's front before a rest: the front is read back, and what lies past the plan is the rest's
module _ (t : TaskTable) (w₀ : List ℕ) {w : List ℕ} (is : w ≡ front_words t ++ drop (3 + 3 * segment_count t) w₀) where
  pub front-back : take (3 + 3 * segment_count t) w ≡ front_words t
  front-back = ap (take (3 + 3 * segment_count t)) is ∙ take_at (front_words t) (drop (3 + 3 * segment_count t) w₀) (3 + 3 * segment_count t) (length_front t)

  pub past-front : written t w ≡ written t w₀
  past-front =
      ap (λ (l : List ℕ). front_words t ++ node_words t ++ l)
      (sym (drop-drop (3 * t.count) (3 + 3 * segment_count t) w)
      ∙ ap (drop (3 * t.count)) (ap (drop (3 + 3 * segment_count t)) is ∙ drop_at (front_words t) (drop (3 + 3 * segment_count t) w₀) (3 + 3 * segment_count t) (length_front t))
      ∙ drop-drop (3 * t.count) (3 + 3 * segment_count t) w₀)

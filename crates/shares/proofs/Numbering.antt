-- The numerators among the words: a turn stores one third word, so every word that is no third word of the s triples stays; threads and
-- lengths are such words.
use mathlib.Core.Path.{◌≡◌, refl, sym, ap₂, ◌∙◌}
use mathlib.Core.List.{List}
use Prim.Native.Nat.{ℕ, ◌+◌, ◌*◌, ◌≤◌, ◌<◌}
use native.Mathlib.Nat.{not-suc-le-zero}
use native.Mathlib.Omega.{arith}
use lib.ListN.{length, drop, set, length-set, length-drop}
use lib.Seq.{get_or-set_same, get_or-set_other, get_or-drop, ext_get_or}
use borrow.Author.Count.{below_more}
use Rattle.plain.specs.At.{at}
use Rattle.shares.specs.declared.Deal.{Deal}
use Rattle.shares.specs.Deal.{numerator}
use Rattle.shares.specs.Words.{threads_at, length_at, numerator_at}
use Rattle.shares.specs.Inner.Written.{Numbered}
use Rattle.shares.proofs.Holding.{HoldsSegments}

module _ {d : Deal} {T C P s : ℕ} {w₀ w : List ℕ} (is : Numbered d T C P s w₀ w) where
  -- the other words of the plan are as they were
  pub threads-kept : (j : ℕ) → threads_at w j ≡ threads_at w₀ j
  threads-kept j = is.kept (3 + 3 * j) (λ k l e. omega arith)

  pub lengths-kept : (j : ℕ) → length_at w j ≡ length_at w₀ j
  lengths-kept j = is.kept (4 + 3 * j) (λ k l e. omega arith)

  pub rest-kept : (k : ℕ) → 3 + 3 * s ≤ k → at w k ≡ at w₀ k
  rest-kept k h = is.kept k (λ j l e. omega arith)

-- before the first turn, and after one more
pub numbered-none : {d : Deal} {T C P : ℕ} {w : List ℕ} → Numbered d T C P 0 w w
numbered-none = record { size = refl; written = λ j h. absurd (not-suc-le-zero h); kept = λ k n. refl }

pub numbered_more : {d : Deal} {T C P s : ℕ} {w₀ w : List ℕ} (x : ℕ) → 5 + 3 * s < length w → x ≡ numerator d T C P (threads_at w s) (length_at w s) → Numbered d T C P s w₀ w → Numbered d T C P (s + 1) w₀ (set w (5 + 3 * s) x)
numbered_more {d} {T} {C} {P} {s} {w₀} {w} x room p i =
    record {
      size = length-set w (5 + 3 * s) x ∙ i.size;
      written = below_more (λ j. numerator_at (set w (5 + 3 * s) x) j ≡ numerator d T C P (threads_at w₀ j) (length_at w₀ j)) s (λ j l. get_or-set_other w (5 + 3 * s) (5 + 3 * j) x 0 (λ e. omega arith) ∙ i.written j l) (get_or-set_same w (5 + 3 * s) x 0 room ∙ p ∙ ap₂ (λ (a b : ℕ). numerator d T C P a b) (threads-kept i s) (lengths-kept i s));
      kept = λ k n. get_or-set_other w (5 + 3 * s) k x 0 (n s (omega arith)) ∙ i.kept k (λ j l. n j (omega arith));
    }

-- the words then hold the cut they held before, with its numerators
pub numbered-holds : {d : Deal} {T C P s : ℕ} {w₀ w : List ℕ} (m e : ℕ → ℕ) → ((j : ℕ) → j < s → threads_at w₀ j ≡ m j) → ((j : ℕ) → j < s → length_at w₀ j ≡ e j) → Numbered d T C P s w₀ w → HoldsSegments w s m e (λ j. numerator d T C P (m j) (e j))
numbered-holds {d} {T} {C} {P} m e p q i =
    record {
      threads = λ j l. threads-kept i j ∙ p j l;
      lengths = λ j l. lengths-kept i j ∙ q j l;
      numerators = λ j l. i.written j l ∙ ap₂ (λ (a b : ℕ). numerator d T C P a b) (p j l) (q j l);
    }

-- the words behind the segments
pub rest-same : {d : Deal} {T C P s : ℕ} {w₀ w : List ℕ} → Numbered d T C P s w₀ w → drop (3 + 3 * s) w ≡ drop (3 + 3 * s) w₀
rest-same {s = s} {w₀ = w₀} {w = w} i = ext_get_or 0 (drop (3 + 3 * s) w) (drop (3 + 3 * s) w₀) (simp length-drop (rw i.size)) (λ k h. get_or-drop (3 + 3 * s) w k 0 ∙ rest-kept i (3 + 3 * s + k) (omega arith) ∙ sym (get_or-drop (3 + 3 * s) w₀ k 0))

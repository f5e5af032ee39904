-- The words of the segments: each turn of the writer stores into two words that no other turn touches.
use mathlib.Core.Path.{◌≡◌, refl, ◌∙◌}
use mathlib.Core.List.{List}
use Prim.Native.Nat.{ℕ, ◌+◌, ◌*◌, ◌<◌}
use native.Mathlib.Nat.{not-suc-le-zero}
use native.Mathlib.Omega.{arith}
use lib.ListN.{length, set, length-set}
use lib.Seq.{get_or-set_same, get_or-set_other}
use borrow.Author.Count.{below_more}
use Rattle.plain.specs.At.{at}
use Rattle.segments.specs.Inner.Words.{CutWords}

module _ {m e : ℕ → ℕ} where
  -- before the first turn
  pub words-none : {w : List ℕ} → CutWords m e 0 w w
  words-none = record {
    room = refl;
    first = λ j h. absurd (not-suc-le-zero h);
    second = λ j h. absurd (not-suc-le-zero h);
    third = λ j. refl;
    head = λ k h. refl;
    rest = λ k h. refl;
  }

  -- after one turn more
  pub words_more : {s : ℕ} {w₀ w : List ℕ} (a b : ℕ) → 4 + 3 * s < length w → a ≡ m s → b ≡ e s
      → CutWords m e s w₀ w → CutWords m e (s + 1) w₀ (set (set w (3 + 3 * s) a) (4 + 3 * s) b)
  words_more {s} {w₀} {w} a b fits p q i = record {
    room = length-set w₁ (4 + 3 * s) b ∙ length-set w (3 + 3 * s) a ∙ i.room;
    first = below_more (λ j. at w₂ (3 + 3 * j) ≡ m j) s (λ j h. other (3 + 3 * j) (λ z. omega arith) (λ z. omega arith) ∙ i.first j h) (here ∙ p);
    second = below_more (λ j. at w₂ (4 + 3 * j) ≡ e j) s (λ j h. other (4 + 3 * j) (λ z. omega arith) (λ z. omega arith) ∙ i.second j h) (next ∙ q);
    third = λ j. other (5 + 3 * j) (λ z. omega arith) (λ z. omega arith) ∙ i.third j;
    head = λ k h. other k (λ z. omega arith) (λ z. omega arith) ∙ i.head k h;
    rest = λ k h. other k (λ z. omega arith) (λ z. omega arith) ∙ i.rest k (omega arith);
  }
    where
      w₁ : List ℕ
      w₁ = set w (3 + 3 * s) a

      w₂ : List ℕ
      w₂ = set w₁ (4 + 3 * s) b

      other : (k : ℕ) → (k ≡ 3 + 3 * s → ⊥) → (k ≡ 4 + 3 * s → ⊥) → at w₂ k ≡ at w k
      other k x y = get_or-set_other w₁ (4 + 3 * s) k b 0 y ∙ get_or-set_other w (3 + 3 * s) k a 0 x

      here : at w₂ (3 + 3 * s) ≡ a
      here = get_or-set_other w₁ (4 + 3 * s) (3 + 3 * s) b 0 (λ z. omega arith) ∙ get_or-set_same w (3 + 3 * s) a 0 (omega arith)

      next : at w₂ (4 + 3 * s) ≡ b
      next = get_or-set_same w₁ (4 + 3 * s) b 0 (let l = length-set w (3 + 3 * s) a in omega arith)

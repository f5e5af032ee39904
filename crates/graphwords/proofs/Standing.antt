-- The words are those that stand in the text, from the left. Going along its bytes, one begins at a byte that is no parting just where the byte before it is none of a
-- word.
use Prim.Native.Nat.{ℕ, zero, suc, ◌+◌, ◌≤◌, ◌<◌, zero-le}
use mathlib.Core.Path.{◌≡◌, refl, sym, ap, subst, ◌∙◌}
use mathlib.Core.Logic.{◌⊎◌, inl, inr, ⊎_elim}
use mathlib.Core.Bool.{Bool, true, false}
use mathlib.Core.List.Memᴰ
use mathlib.Core.List.{List, ◌∷◌, Memᴰ}
use native.Mathlib.Nat.{le_refl, eq-or-lt_of_le}
use native.Mathlib.Omega.{arith}
use lib.ListN.{length, drop, drop_of_length-le}
use Rattle.plain.specs.Pick.{pick}
use Rattle.plain.specs.At.{at}
use Rattle.plain.proofs.Picks.{true-false}
use Rattle.graphwords.specs.Words.{is_parting, Word, letters_of, words_from, words_at, Stands, Ascending}
use Rattle.graphwords.specs.Words.Ascending.{none, more}
use Rattle.graphwords.proofs.Words.{word_here, from-here}

module _ (text : List ℕ) where
  -- the byte before a place: none, a parting, or one of a word
  data Before (place : ℕ) : (inside : Bool) → Type 0 where
    start : place ≡ 0 → Before place false
    parted : (k : ℕ) → place ≡ k + 1 → is_parting (at text k) ≡ true → Before place false
    within : (k : ℕ) → place ≡ k + 1 → is_parting (at text k) ≡ false → Before place true

  -- before a word stands nothing, or a parting
  apart : {place : ℕ} → Before place false → (k : ℕ) → place ≡ k + 1 → is_parting (at text k) ≡ true
  apart (start z) k e = absurd (omega arith)
  apart (parted j q p) k e = let same : j ≡ k = omega arith in subst (λ (x : ℕ). is_parting (at text x) ≡ true) same p

  -- one byte more
  abbrev past : (place : ℕ) (inside : Bool) → List Word
  past place inside = words_from inside (place + 1) (drop (place + 1) text)

  unrolled : (place : ℕ) (inside : Bool) → place < length text →
      words_from inside place (drop place text) ≡ pick (is_parting (at text place)) (past place false) (pick inside (past place true) (word_here text place ∷ past place true))
  unfolding words_from
  unrolled place inside h =
      ap (words_from inside place) (from-here text place h)
      ∙ ap (λ (s : List ℕ). pick (is_parting (at text place)) (past place false) (pick inside (past place true) (record { place = place; letters = letters_of s } ∷ past place true)))
      (sym (from-here text place h))

  -- from a place on, with so many bytes left: a word of the list stands there, and one that stands there is of the list
  from_list : (left place : ℕ) (inside : Bool) → length text ≡ place + left → Before place inside → (w : Word) →
      Memᴰ w (words_from inside place (drop place text)) → Stands text w
  unfolding words_from
  from_list zero place inside e b w m = let h : length text ≤ place = omega arith in absurd (Memᴰ.not-nil (rw (drop_of_length-le text h) at m))
  from_list (suc left) place inside e b w m =
      by (is_parting (at text place)) refl inside b (subst (λ (l : List Word). Memᴰ w l) (unrolled place inside (omega arith)) m) (λ (i : Bool) (c : Before (place + 1) i). from_list left (place + 1) i (omega arith) c w)
    where
      by : (p : Bool) → is_parting (at text place) ≡ p → (i : Bool) → Before place i →
          Memᴰ w (pick p (past place false) (pick i (past place true) (word_here text place ∷ past place true))) →
          ((i : Bool) → Before (place + 1) i → Memᴰ w (past place i) → Stands text w) → Stands text w
      by true q i c m rest = rest false (parted place refl q) m
      by false q true c m rest = rest true (within place refl q) m
      by false q false c m rest = ⊎_elim
          (λ (same : w ≡ word_here text place). subst (Stands text) (sym same) (record { inside = omega arith; begins = q; apart = apart c; letters = refl }))
          (λ (m : Memᴰ w (past place true)). rest true (within place refl q) m)
          (Memᴰ.cases_cons m)

  to-list : (left place : ℕ) (inside : Bool) → length text ≡ place + left → Before place inside → (w : Word) → Stands text w → place ≤ w.place →
      Memᴰ w (words_from inside place (drop place text))
  to-list zero place inside e b w s h = absurd (omega (arith, s.inside))
  to-list (suc left) place inside e b w s h =
      subst (λ (l : List Word). Memᴰ w l) (sym (unrolled place inside (omega arith)))
      (by (is_parting (at text place)) refl inside b (eq-or-lt_of_le h) (λ (i : Bool) (c : Before (place + 1) i) (l : place < w.place). to-list left (place + 1) i (omega arith) c w s (omega arith)))
    where
      by : (p : Bool) → is_parting (at text place) ≡ p → (i : Bool) → Before place i → (place ≡ w.place) ⊎ (place < w.place) →
          ((i : Bool) → Before (place + 1) i → place < w.place → Memᴰ w (past place i)) →
          Memᴰ w (pick p (past place false) (pick i (past place true) (word_here text place ∷ past place true)))
      by true q i c (inl same) rest = absurd (true-false (subst (λ (k : ℕ). is_parting (at text k) ≡ true) same q) s.begins)
      by true q i c (inr l) rest = rest false (parted place refl q) l
      by false q true (within k d p) (inl same) rest = absurd (true-false (s.apart k (sym same ∙ d)) p)
      by false q true c (inr l) rest = rest true (within place refl q) l
      by false q false c (inl same) rest = Memᴰ.head (λ i. record { place = sym same i; letters = (s.letters ∙ ap (λ (k : ℕ). letters_of (drop k text)) (sym same)) i })
      by false q false c (inr l) rest = Memᴰ.tail (rest true (within place refl q) l)

  -- and they come from the left
  earlier : (place : ℕ) {words : List Word} → Ascending (place + 1) words → Ascending place words
  earlier place none = none
  earlier place (more {w = w} h a) = let l : place ≤ w.place = omega arith in more l a

  along : (left place : ℕ) (inside : Bool) → length text ≡ place + left → Ascending place (words_from inside place (drop place text))
  unfolding words_from
  along zero place inside e = let h : length text ≤ place = omega arith in rw (drop_of_length-le text h) none
  along (suc left) place inside e =
      subst (Ascending place) (sym (unrolled place inside (omega arith))) (by (is_parting (at text place)) inside (λ (i : Bool). along left (place + 1) i (omega arith)))
    where
      by : (p i : Bool) → ((i : Bool) → Ascending (place + 1) (past place i)) → Ascending place (pick p (past place false) (pick i (past place true) (word_here text place ∷ past place true)))
      by true i rest = earlier place (rest false)
      by false true rest = earlier place (rest true)
      by false false rest = more (le_refl place) (rest true)

  -- the whole text
  pub word_stands : (w : Word) → Memᴰ w (words_at text 0) → Stands text w
  word_stands w m = from_list (length text) 0 false (omega arith) (start refl) w m

  pub stands_word : (w : Word) → Stands text w → Memᴰ w (words_at text 0)
  stands_word w s = to-list (length text) 0 false (omega arith) (start refl) w s zero-le

  pub words-ascend : Ascending 0 (words_at text 0)
  words-ascend = along (length text) 0 false (omega arith)

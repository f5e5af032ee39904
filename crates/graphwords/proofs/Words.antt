-- The words from a place on. Partings before a word say nothing, a word's letters end where the next parting or the text's end is, and from there on the words are
-- those of the rest.
use Prim.Native.Nat.{ℕ, zero, suc, ◌+◌, ◌≤◌, ◌<◌, zero-le}
use mathlib.Core.Path.{◌≡◌, refl, sym, ap, subst, ◌∙◌}
use mathlib.Core.Logic.{◌⊎◌, inl, inr}
use mathlib.Core.Bool.{Bool, true, false}
use mathlib.Core.List.{List, [], ◌∷◌}
use native.Mathlib.Nat.{add-zero}
use native.Mathlib.Omega.{arith}
use lib.ListN.{length, drop, length-drop, drop_of_length-le}
use lib.Seq.{drop-cons, drop-drop}
use Rattle.std.specs.List.{prefix_len}
use Rattle.std.proofs.lemmas.List.{get_or-drop}
use Rattle.std.proofs.lemmas.List.Sums.{prefix_len-le-length, prefix_len_stops}
use Rattle.plain.specs.At.{at}
use Rattle.plain.proofs.Lists.{lt-or-ge}
use Rattle.graphwords.specs.Words.{is_parting, Word, letters_of, words_from, words_at}
use Rattle.graphwords.specs.Inner.Found.{Begins, past_word}

-- a byte that parts, and one that does not
pub letters-parted : (b : ℕ) (s : List ℕ) → is_parting b ≡ true → letters_of (b ∷ s) ≡ []
unfolding letters_of
letters-parted b s e = rw e

pub letters-more : (b : ℕ) (s : List ℕ) → is_parting b ≡ false → letters_of (b ∷ s) ≡ b ∷ letters_of s
unfolding letters_of
letters-more b s e = rw e

pub words-parted : (b place : ℕ) (s : List ℕ) (inside : Bool) → is_parting b ≡ true → words_from inside place (b ∷ s) ≡ words_from false (place + 1) s
unfolding words_from
words-parted b place s inside e = rw e

words_inside : (b place : ℕ) (s : List ℕ) → is_parting b ≡ false → words_from true place (b ∷ s) ≡ words_from true (place + 1) s
unfolding words_from
words_inside b place s e = rw e

words-begin : (b place : ℕ) (s : List ℕ) → is_parting b ≡ false →
    words_from false place (b ∷ s) ≡ record { place = place; letters = letters_of (b ∷ s) } ∷ words_from true (place + 1) s
unfolding words_from
words-begin b place s e = rw e

-- inside a word the next one begins after its letters
past-letters : (s : List ℕ) (place : ℕ) → words_from true place s ≡ words_from false (place + length (letters_of s)) (drop (length (letters_of s)) s)
unfolding words_from letters_of
past-letters [] place = refl
past-letters (b ∷ s) place = by (past-letters s (place + 1)) (is_parting b) refl
  where
    by : words_from true (place + 1) s ≡ words_from false (place + 1 + length (letters_of s)) (drop (length (letters_of s)) s) →
        (t : Bool) → is_parting b ≡ t → words_from true place (b ∷ s) ≡ words_from false (place + length (letters_of (b ∷ s))) (drop (length (letters_of (b ∷ s))) (b ∷ s))
    by rest true e = rw (letters-parted b s e, add-zero place) (words-parted b place s true e ∙ sym (words-parted b place s false e))
    by rest false e = let q : place + 1 + length (letters_of s) ≡ place + suc (length (letters_of s)) = omega arith in
        rw (letters-more b s e) (words_inside b place s e ∙ rest ∙ ap (λ (k : ℕ). words_from false k (drop (length (letters_of s)) s)) q)

-- over partings they are the same
past-partings : (s : List ℕ) (place : ℕ) → words_from false place s ≡ words_from false (place + prefix_len is_parting s) (drop (prefix_len is_parting s) s)
unfolding words_from
past-partings [] place = refl
past-partings (b ∷ s) place = by (past-partings s (place + 1)) (is_parting b) refl
  where
    by : words_from false (place + 1) s ≡ words_from false (place + 1 + prefix_len is_parting s) (drop (prefix_len is_parting s) s) →
        (t : Bool) → is_parting b ≡ t → words_from false place (b ∷ s) ≡ words_from false (place + prefix_len is_parting (b ∷ s)) (drop (prefix_len is_parting (b ∷ s)) (b ∷ s))
    by rest true e =
        let n = prefix_len is_parting s in
        let one : 1 + n ≡ suc n = omega arith in
        let q : place + 1 + n ≡ place + suc n = omega arith in
        words-parted b place s false e ∙ rest ∙ rw (e, one) (ap (λ (k : ℕ). words_from false k (drop n s)) q)
    by rest false e = let none : prefix_len is_parting (b ∷ s) ≡ 0 = rw e refl in rw (none, add-zero place) refl

-- a word has no more letters than the text has bytes left
letters-fewer : (s : List ℕ) → length (letters_of s) ≤ length s
unfolding letters_of
letters-fewer [] = zero-le
letters-fewer (b ∷ s) = by (letters-fewer s) (is_parting b) refl
  where
    by : length (letters_of s) ≤ length s → (t : Bool) → is_parting b ≡ t → length (letters_of (b ∷ s)) ≤ suc (length s)
    by rest true e = rw (letters-parted b s e) zero-le
    by rest false e = rw (letters-more b s e) (omega (arith, rest))

-- at a place of a text: it ends, a parting stands there, or a word begins
module _ (text : List ℕ) (place : ℕ) where
  -- the word that begins there
  abbrev pub word_here : Word
  word_here = record { place = place; letters = letters_of (drop place text) }

  pub from-here : place < length text → drop place text ≡ at text place ∷ drop (place + 1) text
  from-here h = let e : suc place ≡ place + 1 = omega arith in drop-cons text place 0 h ∙ ap (λ (k : ℕ). at text place ∷ drop k text) e

  pub words-ended : length text ≤ place → words_at text place ≡ []
  unfolding words_from
  words-ended h = rw (drop_of_length-le text h)

  pub words-on : place < length text → is_parting (at text place) ≡ true → words_at text place ≡ words_at text (place + 1)
  words-on h e = ap (words_from false place) (from-here h) ∙ words-parted _ place _ false e

  pub words-here : place < length text → is_parting (at text place) ≡ false → words_at text place ≡ word_here ∷ words_at text (past_word word_here)
  words-here h e =
      ap (words_from false place) (from-here h)
      ∙ words-begin _ place _ e
      ∙ ap (λ (words : List Word). record { place = place; letters = letters_of (at text place ∷ drop (place + 1) text) } ∷ words) (sym (words_inside _ place _ e))
      ∙ ap (λ (s : List ℕ). record { place = place; letters = letters_of s } ∷ words_from true place s) (sym (from-here h))
      ∙ ap (λ (words : List Word). word_here ∷ words)
      (past-letters (drop place text) place ∙ ap (words_from false (past_word word_here)) (drop-drop (length (letters_of (drop place text))) place text))

  pub past-inside : place < length text → past_word word_here ≤ length text
  past-inside h = omega (arith, letters-fewer (drop place text), length-drop place text)

-- so the words from a place on are none, or a word and those past it
pub data First (text : List ℕ) : List Word → Type 0 where
  none : First text []
  one : (place : ℕ) → place < length text → First text (word_here text place ∷ words_at text (past_word (word_here text place)))

first_by : (text : List ℕ) (k from : ℕ) → length text ≤ from + k → First text (words_at text from)
first_by text zero from h = subst (First text) (sym (words-ended text from (omega arith))) none
first_by text (suc k) from h = by (first_by text k (from + 1) (omega arith)) (lt-or-ge from (length text))
  where
    here : First text (words_at text (from + 1)) → from < length text → (t : Bool) → is_parting (at text from) ≡ t → First text (words_at text from)
    here rest l true e = subst (First text) (sym (words-on text from l e)) rest
    here rest l false e = subst (First text) (sym (words-here text from l e)) (one from l)

    by : First text (words_at text (from + 1)) → (from < length text) ⊎ (length text ≤ from) → First text (words_at text from)
    by rest (inl l) = here rest l _ refl
    by rest (inr g) = subst (First text) (sym (words-ended text from g)) none

pub first_word : (text : List ℕ) (from : ℕ) → First text (words_at text from)
first_word text from = first_by text (length text) from (omega arith)

-- the first of them, from a place on: after the partings that stand there
pub begins : (text : List ℕ) (from n : ℕ) → from ≤ length text → n ≡ prefix_len is_parting (drop from text) → Begins text from (from + n)
begins text from n h e =
    let s = drop from text in
    let within : n ≤ length s = rw e (prefix_len-le-length is_parting s) in
    record {
      inside = omega (arith, within, length-drop from text);
      same = past-partings s from ∙ rw (← e, drop-drop n from text) refl;
      first = λ l. ap is_parting (sym (get_or-drop from text n 0)) ∙ rw e (prefix_len_stops is_parting s 0 (rw (← e) (omega (arith, l, length-drop from text))));
    }

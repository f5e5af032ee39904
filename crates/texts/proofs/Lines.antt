-- Fields one after another: what is left of a text of fields after i of them begins with field i, so that a field more is one write more.
use mathlib.Core.Path.{◌≡◌, refl, sym, ap, ◌∙◌}
use mathlib.Core.List.{List, [], ◌∷◌, ◌++◌, append-nil}
use Prim.Native.Nat.{ℕ, ◌+◌, ◌≤◌, ◌<◌}
use native.Mathlib.Numerals.{add-one}
use native.Mathlib.Omega.{arith}
use lib.ListN.{length, drop, get_or, length-drop}
use lib.Seq.{drop-cons}
use Rattle.std.specs.Borrow.{Bor}
use Rattle.std.proofs.lemmas.List.{drop_all, drop-map, length-map}
use Rattle.texts.specs.declared.Page.{Page}
use Rattle.texts.specs.Lines.{field, line, space, line_end}
use Rattle.texts.specs.Inner.Page.{HasRoom, Puts, words_of}
use Rattle.texts.proofs.Writes.{◌then◌, puts_none, first-room, next-room}

-- the page after i fields of a text: there is room for the text of the others, and with that the whole text is written
pub record Left (text : List (List ℕ × ℕ) → List ℕ) (words : List (List ℕ × ℕ)) (before now : Page) (i : ℕ) : Type 0 where
  pub room : HasRoom now (text (drop i words))
  pub whole : (after : Page) → Puts now (text (drop i words)) after → Puts before (text words) after

pub left_none : {text : List (List ℕ × ℕ) → List ℕ} {words : List (List ℕ × ℕ)} {p : Page} → HasRoom p (text words) → Left text words p p 0
left_none r = record { room = r; whole = λ after w. w }

-- field i is the first of those that are left
module _ {text : List (List ℕ × ℕ) → List ℕ} {words : List (List ℕ × ℕ)} {p q : Page} {i : ℕ} (l : Left text words p q i) where
  module _ {piece : List ℕ} (e : text (drop i words) ≡ piece ++ text (drop (i + 1) words)) where
    pub left-room : HasRoom q piece
    left-room = first-room _ (rw e at l.room)

    pub left-more : {r : Page} → Puts q piece r → Left text words p r (i + 1)
    left-more w = record { room = next-room w (rw e at l.room); whole = λ after v. l.whole after (rw e (w then v)) }

  pub left-all : text [] ≡ [] → length words ≤ i → Puts p (text words) q
  left-all e h =
      let none = ap text (drop_all i words h) ∙ e in
      let room = rw none at l.room in
      l.whole q (rw none (puts_none q (omega (arith, room.fits))))

line-cons : (word : List ℕ) (value : ℕ) (rest : List (List ℕ × ℕ)) → 0 < length rest → line ((word, value) ∷ rest) ≡ field word value space ++ line rest
unfolding line
line-cons word value [] h = absurd (omega arith)
line-cons word value (next ∷ rest) h = refl

line-one : (word : List ℕ) (value : ℕ) → line ((word, value) ∷ []) ≡ field word value line_end ++ line []
unfolding line
line-one word value = sym (append-nil (field word value line_end))

-- what a read past the fields would give
abbrev pub no_field : Bor (List ℕ) × ℕ
no_field = (record { ref_ptr = (0, 0); now = [] }, 0)

-- field i, with a space where others follow and the line's end where none does
module _ (fields : List (Bor (List ℕ) × ℕ)) (i : ℕ) where
  abbrev pub after_is : (after : ℕ) → Type 0
  after_is after = line (drop i (words_of fields)) ≡ field (get_or fields i no_field).0.now (get_or fields i no_field).1 after ++ line (drop (i + 1) (words_of fields))

  module _ (h : i < length fields) where
    pub words-at : drop i (words_of fields) ≡ ((get_or fields i no_field).0.now, (get_or fields i no_field).1) ∷ drop (i + 1) (words_of fields)
    words-at = simp drop-map (rw (drop-cons fields i no_field h, add-one) refl)

    pub field-last : i + 1 ≡ length fields → after_is line_end
    field-last e = rw (words-at, drop_all (i + 1) (words_of fields) (simp length-map (omega arith))) (line-one _ _)

    pub field-more : (i + 1 ≡ length fields → ⊥) → after_is space
    field-more n = rw words-at (line-cons _ _ _ (simp (drop-map, length-map, length-drop) (omega arith)))

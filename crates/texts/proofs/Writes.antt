-- Writes follow one another: a second text written where the first one ends is the two texts written at once, because the first
-- write leaves everything past its end as it was.
use mathlib.Core.Path.{◌≡◌, refl, sym, ap, ◌∙◌}
use mathlib.Core.List.{List, [], ◌∷◌, ◌++◌, append_assoc, append-nil}
use Prim.Native.Nat.{ℕ, ◌+◌, ◌-◌, ◌≤◌, ◌<◌}
use native.Mathlib.Nat.{add_assoc, add-zero}
use native.Mathlib.Numerals.{add-one}
use native.Mathlib.Omega.{arith}
use lib.ListN.{length, take, drop, get_or, set, length-append, length-drop, take-append-drop}
use lib.Seq.{length-take-le, take_at, drop-drop, set_split, drop-append-add, append_snoc, take-suc}
use borrow.Rule.Slice.PartMut.{put_mid}
use Rattle.texts.specs.Wrote.{wrote}
use Rattle.texts.specs.Inner.Wrote.{Room, Wrote}
use Rattle.texts.specs.declared.Page.{Page}
use Rattle.texts.specs.Inner.Page.{HasRoom, Puts}

-- a write changes no length
length-wrote : (at : ℕ) (text out : List ℕ) → Room at text out → length (wrote at text out) ≡ length out
unfolding wrote
length-wrote at text out r = simp (length-append, length-drop) (omega (arith, length-take-le at out (omega arith)))

pub kept : {at end : ℕ} {text out out₁ : List ℕ} → Wrote at text out out₁ end → length out₁ ≡ length out
kept {at} {end} {text} {out} w = ap length w.reads ∙ length-wrote at text out w.room

-- two writes are one
wrote-wrote : (at : ℕ) (a b out : List ℕ) → at ≤ length out → wrote (at + length a) b (wrote at a out) ≡ wrote at (a ++ b) out
unfolding wrote
wrote-wrote at a b out h =
    let front = take at out ++ a in
    let rest = drop (at + length a) out in
    let size : length front ≡ at + length a = simp length-append (omega (arith, length-take-le at out h)) in
    let past : drop (at + length a + length b) (front ++ rest) ≡ drop (at + length a + length b) out = rw (← size, drop-append-add, size, drop-drop) in
    rw (take_at front rest (at + length a) size, past, append_assoc (take at out) a b, length-append, add_assoc)

-- the same of what two writers leave in a buffer, and on a page
pub wrote-then : {at mid end : ℕ} {a b out out₁ out₂ : List ℕ} → Wrote at a out out₁ mid → Wrote mid b out₁ out₂ end → Wrote at (a ++ b) out out₂ end
wrote-then {at} {mid} {end} {a} {b} {out} {out₁} {out₂} v w =
    let both : wrote mid b out₁ ≡ wrote at (a ++ b) out = rw (v.ends, v.reads) (wrote-wrote at a b out (omega (arith, v.room.fits))) in
    record {
      room = record { fits = simp length-append (omega (arith, kept v, v.ends, w.room.fits)) };
      ends = simp length-append (omega (arith, v.ends, w.ends));
      reads = w.reads ∙ both;
    }

infixl 60 ◌then◌
pub ◌then◌ : {p q r : Page} {a b : List ℕ} → Puts p a q → Puts q b r → Puts p (a ++ b) r
v then w = record { wrote = wrote-then v.wrote w.wrote; same = w.same ∙ v.same }

-- room for two texts is room for the first, and after it for the second
pub room-first : {at : ℕ} {a out : List ℕ} (b : List ℕ) → Room at (a ++ b) out → Room at a out
room-first b r = record { fits = omega (arith, simp length-append at r.fits) }

pub room-next : {at mid : ℕ} {a b out out₁ : List ℕ} → Wrote at a out out₁ mid → Room at (a ++ b) out → Room mid b out₁
room-next w r = record { fits = omega (arith, kept w, w.ends, simp length-append at r.fits) }

pub first-room : {p : Page} {a : List ℕ} (b : List ℕ) → HasRoom p (a ++ b) → HasRoom p a
first-room b r = record { fits = omega (arith, simp length-append at r.fits) }

pub next-room : {p q : Page} {a b : List ℕ} → Puts p a q → HasRoom p (a ++ b) → HasRoom q b
next-room v r = let w = v.wrote in record { fits = omega (arith, kept w, w.ends, simp length-append at r.fits) }

-- nothing, a text, one byte, and a byte more of a text
pub wrote_none : (at : ℕ) (out : List ℕ) → at ≤ length out → Wrote at [] out out at
unfolding wrote
wrote_none at out h = record { room = record { fits = omega arith }; ends = omega arith; reads = rw (append-nil, add-zero) (sym (take-append-drop at out)) }

pub puts_none : (p : Page) → p.end ≤ length p.out.now → Puts p [] p
puts_none p h = record { wrote = wrote_none p.end p.out.now h; same = refl }

pub wrote-text : (at : ℕ) (text out : List ℕ) → at + length text ≤ length out → Wrote at text out (put_mid at (at + length text - at) out text) (at + length text)
unfolding wrote
wrote-text at text out h =
    let size : at + length text - at ≡ length text = omega arith in
    record { room = record { fits = h }; ends = refl; reads = rw (size, drop-drop) (sym (append_assoc (take at out) text (drop (at + length text) out))) }

pub wrote-byte : (at b : ℕ) (out : List ℕ) → at < length out → Wrote at (b ∷ []) out (set out at b) (at + 1)
unfolding wrote
wrote-byte at b out h = record { room = record { fits = omega arith }; ends = refl; reads = rw (set_split, append_snoc, add-one) }

pub wrote-more : (at i : ℕ) (text : List ℕ) {out out₁ : List ℕ} → Wrote at (take i text) out out₁ (at + i) → i < length text → at + i < length out₁ → Wrote at (take (i + 1) text) out (set out₁ (at + i) (get_or text i 0)) (at + (i + 1))
wrote-more at i text {out} {out₁} w l h = rw (add-one i, take-suc text i 0, ← add-one i, ← add_assoc) (wrote-then w (wrote-byte (at + i) (get_or text i 0) out₁ h))

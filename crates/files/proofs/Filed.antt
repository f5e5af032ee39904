-- Records that lie in a file are the file: each length that was read is written in one way, the record's part stands behind it, and the next length behind that.
use Prim.Native.Nat.{ℕ, suc, ◌+◌, ◌^◌, ◌≤◌, ◌<◌}
use mathlib.Core.Path.{◌≡◌, refl, sym, ap, ap₂, subst, ◌∙◌}
use mathlib.Core.List.{List, [], ◌∷◌, ◌++◌, append_assoc, append-nil}
use native.Mathlib.Omega.{arith}
use lib.ListN.{length, take, drop, length-append, length-take, length-drop}
use lib.Seq.{take-add, drop-drop, get_or-drop, take-append_seam, drop-append_seam}
use Rattle.numbers.specs.Number.{record_more}
use Rattle.numbers.specs.Form.{Whole}
use Rattle.numbers.specs.Shortest.{Bytes, shortest}
use Rattle.numbers.proofs.Shortest.{shortest-whole, form-shortest}
use Rattle.files.specs.File.{part_of}
use Rattle.files.specs.Laid.{file_of, Laid}
use Rattle.files.specs.Laid.Laid.{none, more}

-- a record with its length before it
abbrev pub lengthed : List ℕ → List ℕ
lengthed bytes = shortest record_more (length bytes) ++ bytes

-- a record more at the end
file-more : (records : List (List ℕ)) (bytes : List ℕ) → file_of (records ++ bytes ∷ []) ≡ file_of records ++ lengthed bytes
unfolding file_of
file-more [] bytes = append-nil (lengthed bytes)
file-more (first ∷ records) bytes = ap (λ (x : List ℕ). lengthed first ++ x) (file-more records bytes) ∙ sym (append_assoc (lengthed first) (file_of records) (lengthed bytes))

-- the bytes before the place are the records, each with its length before it
pub laid-filed : (file : List ℕ) → Bytes file → {records : List (List ℕ)} {at : ℕ} → Laid file records at → take at file ≡ file_of records
unfolding file_of
laid-filed file b none = refl
laid-filed file b (more {records} {place} {size} {n} l w h) =
    let part = part_of file (place + n) size in
    let x = (form-shortest record_more (λ k. rw (get_or-drop place file k 0) (b (place + k))) w.0 w.1).1 in
    let long : size ≡ length part = omega (arith, length-take size (drop (place + n) file), length-drop (place + n) file) in
    take-add (place + n) size file
    ∙ ap (λ (y : List ℕ). y ++ part) (take-add place n file ∙ ap₂ ◌++◌ (laid-filed file b l) x)
    ∙ append_assoc (file_of records) (shortest record_more size) part
    ∙ ap (λ (k : ℕ). file_of records ++ (shortest record_more k ++ part)) long
    ∙ sym (file-more records part)

-- a record with its length before it stands whole at its place, and what is behind it follows
pub record Stood (file bytes rest : List ℕ) (at n : ℕ) : Type 0 where
  pub whole : Whole record_more (drop at file) (length bytes) n
  pub room : at + n + length bytes ≤ length file
  pub part : part_of file (at + n) (length bytes) ≡ bytes
  pub next : drop (at + n + length bytes) file ≡ rest
  pub size : n + length bytes ≡ length (lengthed bytes)

pub one-stands : (file bytes rest : List ℕ) (at : ℕ) → drop at file ≡ lengthed bytes ++ rest → at ≤ length file → length file < 128 ^ suc record_more →
    Stood file bytes rest at (length (shortest record_more (length bytes)))
one-stands file bytes rest at e i h =
    let n = length (shortest record_more (length bytes)) in
    let size = length-append (shortest record_more (length bytes)) bytes in
    let there : drop at file ≡ shortest record_more (length bytes) ++ (bytes ++ rest) = e ∙ append_assoc (shortest record_more (length bytes)) bytes rest in
    let left = ap (length {A = ℕ}) e ∙ length-append (lengthed bytes) rest in
    let room : at + n + length bytes ≤ length file = omega (arith, length-drop at file) in
    let w = shortest-whole record_more (length bytes) (bytes ++ rest) (omega arith) in
    let past : drop (at + n) file ≡ bytes ++ rest = sym (drop-drop n at file) ∙ ap (drop n) there ∙ drop-append_seam (shortest record_more (length bytes)) (bytes ++ rest) in
    record {
      whole = rw (← there) at w;
      room = room;
      part = ap (take (length bytes)) past ∙ take-append_seam bytes rest;
      next = sym (drop-drop (length bytes) (at + n) file) ∙ ap (drop (length bytes)) past ∙ drop-append_seam bytes rest;
      size = sym size;
    }

-- so it lies there
one-laid : (file bytes rest : List ℕ) {before : List (List ℕ)} {at : ℕ} → Laid file before at → drop at file ≡ lengthed bytes ++ rest → at ≤ length file → length file < 128 ^ suc record_more →
    (let next = at + length (lengthed bytes) in Laid file (before ++ bytes ∷ []) next × (drop next file ≡ rest) × (next ≤ length file))
one-laid file bytes rest {before} {at} l e i h =
    let n = length (shortest record_more (length bytes)) in
    let s = one-stands file bytes rest at e i h in
    let q : at + n + length bytes ≡ at + length (lengthed bytes) = omega (arith, s.size) in
    rw (← q) (rw s.part at (more l s.whole s.room), s.next, s.room)

-- and so do all of them, one behind the other
pub filed-laid : (file rest : List ℕ) (records : List (List ℕ)) {before : List (List ℕ)} {at : ℕ} → Laid file before at → drop at file ≡ file_of records ++ rest →
    at ≤ length file → length file < 128 ^ suc record_more → Laid file (before ++ records) (at + length (file_of records))
unfolding file_of
filed-laid file rest [] {before} {at} l e i h = rw (append-nil before) (let q : at + 0 ≡ at = omega arith in rw q l)
filed-laid file rest (bytes ∷ records) {before} {at} l e i h =
    let one = one-laid file bytes (file_of records ++ rest) l (e ∙ append_assoc (lengthed bytes) (file_of records) rest) i h in
    let all = filed-laid file rest records one.0 one.1 one.2 h in
    let q : at + length (lengthed bytes) + length (file_of records) ≡ at + length (lengthed bytes ++ file_of records) = omega (arith, length-append (lengthed bytes) (file_of records)) in
    subst (λ (x : List (List ℕ)). Laid file x (at + length (lengthed bytes ++ file_of records))) (append_assoc before (bytes ∷ []) records)
    (subst (λ (k : ℕ). Laid file ((before ++ bytes ∷ []) ++ records) k) q all)

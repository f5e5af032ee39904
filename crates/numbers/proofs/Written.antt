-- Numbers that are written one after the other stand in the buffer as they would if they were written at once: each is stored behind the one before.
use Prim.Native.Nat.{ℕ, suc, ◌+◌, ◌*◌, ◌^◌, ◌≤◌, ◌<◌}
use mathlib.Core.Path.{◌≡◌, refl, sym, ap, ap₂, ◌∙◌}
use mathlib.Core.List.{List, [], ◌∷◌, ◌++◌, append_assoc, append-nil}
use native.Mathlib.Nat.{suc-mul, zero-add}
use native.Mathlib.Omega.{arith}
use lib.ListN.{length, drop, set, length-append}
use lib.Seq.{sets, length-sets, sets-eq}
use Rattle.numbers.specs.Shortest.{shortest, all_shortest}
use Rattle.numbers.specs.Inner.Word.{word_more}
use Rattle.numbers.proofs.Shortest.{shortest-fewer, shortest-length}

-- stored in two parts
pub sets-append : (v w l : List ℕ) (k : ℕ) → sets (sets l k v) (k + length v) w ≡ sets l k (v ++ w)
sets-append [] w l k = let e : k + 0 ≡ k = omega arith in ap (λ (j : ℕ). sets l j w) e
sets-append (a ∷ v) w l k = let e : k + suc (length v) ≡ suc k + length v = omega arith in
    ap (λ (j : ℕ). sets (sets l k (a ∷ v)) j w) e ∙ sets-append v w (set l k a) (suc k)

-- stored from the front on: it stands there, and what is past it stays
pub sets-front : (v l : List ℕ) → length v ≤ length l → sets l 0 v ≡ v ++ drop (length v) l
sets-front v l h = sets-eq v l 0 (omega arith) ∙ ap (λ (k : ℕ). v ++ drop k l) (zero-add (length v))

-- written in two parts
pub written-append : (more : ℕ) (vs ws : List ℕ) → all_shortest more (vs ++ ws) ≡ all_shortest more vs ++ all_shortest more ws
unfolding all_shortest
written-append more [] ws = refl
written-append more (v ∷ vs) ws = ap (◌++◌ (shortest more v)) (written-append more vs ws) ∙ sym (append_assoc (shortest more v) (all_shortest more vs) (all_shortest more ws))

pub written-length : (more : ℕ) (vs ws : List ℕ) → length (all_shortest more (vs ++ ws)) ≡ length (all_shortest more vs) + length (all_shortest more ws)
written-length more vs ws = ap (length {A = ℕ}) (written-append more vs ws) ∙ length-append (all_shortest more vs) (all_shortest more ws)

-- no number takes more than `suc more` bytes
pub written-most : (more : ℕ) (vs : List ℕ) → length (all_shortest more vs) ≤ length vs * suc more
unfolding all_shortest
written-most more [] = omega arith
written-most more (v ∷ vs) =
    rw (suc-mul (length vs) (suc more)) (omega (arith, length-append (shortest more v) (all_shortest more vs), shortest-length more v, written-most more vs))

-- from b, with numbers written from place k on, comes c, and `next` is the place after them
pub record Wrote (more : ℕ) (b : List ℕ) (k : ℕ) (vs c : List ℕ) (next : ℕ) : Type 0 where
  pub bytes : c ≡ sets b k (all_shortest more vs)
  pub place : next ≡ k + length (all_shortest more vs)

-- nothing is written
pub wrote_none : (more : ℕ) (b : List ℕ) (k : ℕ) → Wrote more b k [] b k
unfolding all_shortest
wrote_none more b k = record { bytes = refl; place = omega arith }

-- one number is, as a word is
module _ (more v : ℕ) (h : v < 128 ^ suc more) (l : more ≤ word_more) where
  pub word_number : shortest word_more v ≡ all_shortest more (v ∷ [])
  unfolding all_shortest
  word_number = shortest-fewer more word_more v h l ∙ sym (append-nil (shortest more v))

  pub wrote-number : {b c : List ℕ} {k next : ℕ} → next ≡ k + length (shortest word_more v) → c ≡ sets b k (shortest word_more v) → Wrote more b k (v ∷ []) c next
  wrote-number p e = record { bytes = rw (← word_number) e; place = rw (← word_number) p }

module _ {more : ℕ} {b c vs : List ℕ} {k next : ℕ} (w : Wrote more b k vs c next) where
  -- the length stays
  pub wrote-length : length c ≡ length b
  wrote-length = ap length w.bytes ∙ length-sets b k (all_shortest more vs)

  -- and more after those
  pub wrote-more : {d ws : List ℕ} {last : ℕ} → Wrote more c next ws d last → Wrote more b k (vs ++ ws) d last
  wrote-more {ws = ws} m = record {
    bytes = m.bytes ∙ ap₂ (λ (x : List ℕ) (j : ℕ). sets x j (all_shortest more ws)) w.bytes w.place
        ∙ sets-append (all_shortest more vs) (all_shortest more ws) b k ∙ ap (sets b k) (sym (written-append more vs ws));
    place = omega (arith, m.place, w.place, written-length more vs ws);
  }

  -- there is room for what comes after them, and for the first of that
  pub room-rest : (ws : List ℕ) → k + length (all_shortest more (vs ++ ws)) ≤ length b → next + length (all_shortest more ws) ≤ length c
  room-rest ws h = omega (arith, h, w.place, wrote-length, written-length more vs ws)

  pub room_after : (ws us : List ℕ) → k + length (all_shortest more (vs ++ (ws ++ us))) ≤ length b → next + length (all_shortest more ws) ≤ length c
  room_after ws us h = omega (arith, room-rest (ws ++ us) h, written-length more ws us)

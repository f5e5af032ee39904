-- The numbers are written part by part: each part is small and has its room because the whole has, and behind the last one the whole is written.
use Prim.Native.Nat.{ℕ, ◌+◌, ◌-◌, ◌*◌, ◌≤◌}
use mathlib.Core.Path.{◌≡◌, ap}
use mathlib.Core.List.{List, [], ◌∷◌, ◌++◌, append_assoc, append-nil}
use native.Mathlib.Omega.{arith}
use lib.ListN.{length, take, drop}
use lib.Seq.{sets}
use Rattle.plain.specs.At.{at}
use Rattle.numbers.specs.Number.{plan_more}
use Rattle.numbers.specs.Shortest.{shortest, all_shortest}
use Rattle.numbers.specs.Inner.Word.{word_more}
use Rattle.numbers.proofs.Written.{Wrote, wrote-number, wrote-more, written-length, room_after}
use Rattle.planwriters.specs.Writing.{numbers_of}
use Rattle.planwriters.specs.Inner.Parts.{segment_words, node_words}
use Rattle.planwriters.specs.Inner.Fits.{Small, Fits}
use Rattle.planwriters.proofs.Small.{small-behind, small-first, small-second}
use Rattle.planwriters.proofs.Values.{small-number}

-- the lists as parts of the words from one place to another
pub segments-part : (words : List ℕ) → take (3 + 3 * at words 1 - 3) (drop 3 words) ≡ segment_words words
segments-part words = let e : 3 + 3 * at words 1 - 3 ≡ 3 * at words 1 = omega arith in rw e

pub nodes-part : (words : List ℕ) → (let from = 3 + 3 * at words 1 in take (from + 3 * at words 2 - from) (drop from words) ≡ node_words words)
nodes-part words = let from = 3 + 3 * at words 1 in
    ap (λ (k : ℕ). take k (drop from words)) (let e : from + 3 * at words 2 - from ≡ 3 * at words 2 = omega arith in e)

-- a part behind what was written
module _ {b c vs part ws : List ℕ} {k next : ℕ} (w : Wrote plan_more b k vs c next) (is : part ≡ ws) where
  pub part-fits : (us : List ℕ) → Small ws → k + length (all_shortest plan_more (vs ++ (ws ++ us))) ≤ length b →
      Small part × (next + length (all_shortest plan_more part) ≤ length c)
  part-fits us s h = rw is (s, room_after w ws us h)

  pub wrote-part : {d : List ℕ} {last : ℕ} → last ≡ next + length (all_shortest plan_more part) → d ≡ sets c next (all_shortest plan_more part) → Wrote plan_more b k (vs ++ ws) d last
  wrote-part p q = wrote-more w (record { bytes = rw is at q; place = rw is at p })

module _ {words : List ℕ} {room id : ℕ} (f : Fits words room id) where
  -- the parts' values
  lists-small : Small (segment_words words ++ at words 2 ∷ node_words words)
  lists-small = small-behind (small-behind (small-behind f.small))

  pub head_small : Small (at words 0 ∷ at words 1 ∷ [])
  head_small = small-behind (small-first (id ∷ at words 0 ∷ at words 1 ∷ []) (segment_words words ++ at words 2 ∷ node_words words) f.small)

  pub segments-small : Small (segment_words words)
  segments-small = small-first (segment_words words) (at words 2 ∷ node_words words) lists-small

  counted-small : Small (at words 2 ∷ node_words words)
  counted-small = small-second (segment_words words) (at words 2 ∷ node_words words) lists-small

  pub count_small : Small (at words 2 ∷ [])
  count_small = small-first (at words 2 ∷ []) (node_words words) counted-small

  pub nodes-small : Small (node_words words)
  nodes-small = small-behind counted-small

  -- the room of the whole, and of the id
  pub whole_room : 0 + length (all_shortest plan_more (numbers_of id words)) ≤ room
  whole_room = omega (arith, f.enough)

  pub id-room : 0 + length (shortest word_more id) ≤ room
  id-room = omega (
    arith,
    f.enough,
    ap (length {A = ℕ}) (small-number id (f.small.each 0)),
    written-length plan_more (id ∷ []) (at words 0 ∷ at words 1 ∷ segment_words words ++ at words 2 ∷ node_words words),
  )

  -- the id is written
  pub wrote-id : {b c : List ℕ} {next : ℕ} → next ≡ 0 + length (shortest word_more id) → c ≡ sets b 0 (shortest word_more id) → Wrote plan_more b 0 (id ∷ []) c next
  wrote-id = wrote-number plan_more id (omega (arith, f.small.each 0)) (omega arith)

-- all parts are
pub parts-numbers : (id : ℕ) (words : List ℕ) → (id ∷ at words 0 ∷ at words 1 ∷ (segment_words words ++ (at words 2 ∷ []))) ++ node_words words ≡ numbers_of id words
parts-numbers id words = ap (λ (vs : List ℕ). id ∷ at words 0 ∷ at words 1 ∷ vs) (append_assoc (segment_words words) (at words 2 ∷ []) (node_words words))

pub nodes-end : (id : ℕ) (words : List ℕ) → (id ∷ at words 0 ∷ at words 1 ∷ (segment_words words ++ (at words 2 ∷ []))) ++ (node_words words ++ []) ≡ numbers_of id words
nodes-end id words = rw (append-nil (node_words words)) (parts-numbers id words)

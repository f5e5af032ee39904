-- A written plan is read back word by word: its parts stand one behind the other, each as long as its triples say.
use mathlib.Core.Path.{◌≡◌, refl, ap, ◌∙◌}
use mathlib.Core.List.{List, [], ◌∷◌, ◌++◌, append_assoc}
use Prim.Native.Nat.{ℕ, ◌+◌, ◌*◌, ◌≤◌, ◌<◌}
use native.Mathlib.Omega.{arith}
use lib.ListN.{length, drop, length-append, length-drop, get_or-append}
use lib.Seq.{get_or-append-add}
use Rattle.plain.specs.At.{at}
use Rattle.tables.specs.declared.TaskTable.{TaskTable}
use Rattle.segments.proofs.Segments.{segments-le}
use Rattle.shares.proofs.Holding.{HoldsSegments}
use Rattle.shares.proofs.Triples.{length-triples, first_of, second-of, third_of, triples-hold}
use Rattle.plans.specs.Diagram.{finish, segment_count, threads_in, length_in}
use Rattle.plans.specs.Shares.{over, numerator_of, deadline, offset, density}
use Rattle.plans.specs.Words.{word_count, words_max, front_words, node_words, written}
use Rattle.plans.specs.Inner.Planned.{Planned}
use Rattle.plans.proofs.Front.{length_front}

module _ (t : TaskTable) (words : List ℕ) where
  -- the head
  pub at-over : at (written t words) 0 ≡ over t
  unfolding front_words
  at-over = refl

  pub at-segments : at (written t words) 1 ≡ segment_count t
  unfolding front_words
  at-segments = refl

  pub at-nodes : at (written t words) 2 ≡ t.count
  unfolding front_words
  at-nodes = refl

  -- the segments
  pub segments-held : HoldsSegments (written t words) (segment_count t) (threads_in t) (length_in t) (numerator_of t)
  unfolding front_words
  segments-held =
      rw (append_assoc (front_words t) (node_words t) (drop (word_count (segment_count t) t.count) words))
      (triples-hold (threads_in t) (length_in t) (numerator_of t) (segment_count t) (over t ∷ segment_count t ∷ t.count ∷ []) _ refl)

  length-nodes : length (node_words t) ≡ 3 * t.count
  unfolding node_words
  length-nodes = length-triples (offset t) (deadline t) (density t) t.count

  pub length-plan : length (front_words t ++ node_words t) ≡ word_count (segment_count t) t.count
  length-plan = let a = length-append (front_words t) (node_words t) in let b = length_front t in let c = length-nodes in omega arith

  -- no word is lost or won
  pub length-written : word_count (segment_count t) t.count ≤ length words → length (written t words) ≡ length words
  length-written h =
      let a = length-append (front_words t ++ node_words t) (drop (word_count (segment_count t) t.count) words) in
      let b = length-plan in
      let c = length-drop (word_count (segment_count t) t.count) words in
      omega arith

  -- a word of the node part
  at-node : (k : ℕ) → k < 3 * t.count → at (written t words) (3 + 3 * segment_count t + k) ≡ at (node_words t) k
  at-node k h =
      let e : 3 + 3 * segment_count t + k ≡ length (front_words t) + k = (let b = length_front t in omega arith) in
      get_or-append (front_words t ++ node_words t) (drop (word_count (segment_count t) t.count) words) 0 (3 + 3 * segment_count t + k) (let b = length-plan in omega arith)
      ∙ ap (at (front_words t ++ node_words t)) e
      ∙ get_or-append-add (front_words t) (node_words t) k 0

  -- node v's offset, deadline and density
  pub at_offset : (v : ℕ) → v < t.count → at (written t words) (3 + 3 * segment_count t + 3 * v) ≡ offset t v
  unfolding node_words
  at_offset v l = at-node (3 * v) (omega arith) ∙ first_of (offset t) (deadline t) (density t) t.count v l

  pub at-deadline : (v : ℕ) → v < t.count → at (written t words) (3 + 3 * segment_count t + (3 * v + 1)) ≡ deadline t v
  unfolding node_words
  at-deadline v l = at-node (3 * v + 1) (omega arith) ∙ second-of (offset t) (deadline t) (density t) t.count v l

  pub at-density : (v : ℕ) → v < t.count → at (written t words) (3 + 3 * segment_count t + (3 * v + 2)) ≡ density t v
  unfolding node_words
  at-density v l = at-node (3 * v + 2) (omega arith) ∙ third_of (offset t) (deadline t) (density t) t.count v l

-- a table's plan has at most as many words as are asked for
pub words-fit : {t : TaskTable} → Planned t → word_count (segment_count t) t.count ≤ words_max
words-fit {t} ok = let a = segments-le t.count (finish t) in let b = ok.range.count-high in omega arith

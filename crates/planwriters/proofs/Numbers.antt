-- The numbers of a plan record are its id and its words, in another order: behind Q and the segments' count come the segments, and behind the nodes' count the
-- nodes. So what holds of the id and of every word that the counts speak of holds of every number, and what the numbers take together is what those take.
use Prim.Native.Nat.{ℕ, suc, ◌+◌, ◌*◌, ◌≤◌, ◌<◌}
use mathlib.Core.Path.{◌≡◌, refl, ap, ap₂, ◌∙◌}
use mathlib.Core.Logic.{◌⊎◌, ⊎_elim}
use mathlib.Core.Bool.{true, false}
use mathlib.Core.List.{List, [], ◌∷◌, ◌++◌, append-nil}
use native.Mathlib.Omega.{arith}
use lib.ListN.{length, take, drop, length-append, length-take, length-drop, get_or-append}
use lib.Seq.{take-add, length-take-le, get_or-take, get_or-drop, get_or_at, get_or-append-add}
use Rattle.plain.specs.At.{at}
use Rattle.plain.proofs.Picks.{true-false}
use Rattle.plain.proofs.Tests.{not-held}
use Rattle.tables.specs.Limits.{count_max}
use Rattle.numbers.specs.Number.{plan_more}
use Rattle.numbers.specs.Shortest.{shortest, all_shortest}
use Rattle.numbers.specs.Inner.Word.{word_more}
use Rattle.numbers.proofs.Shortest.{shortest-last}
use Rattle.numbers.proofs.Written.{written-length, written-most}
use Rattle.planwriters.specs.Writing.{numbers_of, plan_record_of, plan_max, value_limit, are_small}
use Rattle.planwriters.specs.Inner.Parts.{segment_words, node_words, count_of, Whole}
use Rattle.planwriters.specs.Inner.Fits.{Small, Counted}
use Rattle.planwriters.proofs.Small.{small-values, values-small, small-before, small-behind, small-append, small-first, small-second}
use Rattle.planwriters.proofs.Values.{small-number}

-- the front of the words, word by word
pub front-two : (words : List ℕ) → 2 ≤ length words → take 2 words ≡ at words 0 ∷ at words 1 ∷ []
front-two [] h = absurd (omega arith)
front-two (a ∷ []) h = absurd (omega arith)
front-two (a ∷ b ∷ words) h = refl

pub third-word : (words : List ℕ) → 3 ≤ length words → take 1 (drop 2 words) ≡ at words 2 ∷ []
third-word [] h = absurd (omega arith)
third-word (a ∷ []) h = absurd (omega arith)
third-word (a ∷ b ∷ []) h = absurd (omega arith)
third-word (a ∷ b ∷ c ∷ words) h = refl

-- a count takes a byte, and all other numbers at most nine, so that no record is longer than `plan_max`
count-byte : (v : ℕ) → v ≤ count_max → length (all_shortest plan_more (v ∷ [])) ≡ 1
unfolding all_shortest
count-byte v h = ap (length {A = ℕ}) (append-nil (shortest plan_more v) ∙ shortest-last plan_more v (omega arith))

pub plan-length : (id : ℕ) (words : List ℕ) → at words 1 ≤ count_max → at words 2 ≤ count_max → length (plan_record_of id words) ≤ plan_max
plan-length id words s n =
    let segments = segment_words words in
    let nodes = node_words words in
    let behind = segments ++ at words 2 ∷ nodes in
    omega (
      arith,
      written-length plan_more (id ∷ at words 0 ∷ []) (at words 1 ∷ behind),
      written-length plan_more (at words 1 ∷ []) behind,
      written-length plan_more segments (at words 2 ∷ nodes),
      written-length plan_more (at words 2 ∷ []) nodes,
      written-most plan_more (id ∷ at words 0 ∷ []),
      written-most plan_more segments,
      written-most plan_more nodes,
      length-take (3 * at words 1) (drop 3 words),
      length-take (3 * at words 2) (drop (3 + 3 * at words 1) words),
      count-byte (at words 1) s,
      count-byte (at words 2) n,
    )

-- words whose counts are in range are as many as the counts speak of
pub counted-whole : {words : List ℕ} → Counted words → Whole words
counted-whole c = omega (arith, c.enough, c.segments-high, c.nodes-high)

module _ (words : List ℕ) (whole : Whole words) where
  -- the two lists are there
  segments-length : length (segment_words words) ≡ 3 * at words 1
  segments-length = length-take-le (3 * at words 1) (drop 3 words) (omega (arith, length-drop 3 words))

  nodes-length : length (node_words words) ≡ 3 * at words 2
  nodes-length = length-take-le (3 * at words 2) (drop (3 + 3 * at words 1) words) (omega (arith, length-drop (3 + 3 * at words 1) words))

  -- the words that the counts speak of, in their parts
  words-parts : take (count_of words) words ≡ at words 0 ∷ at words 1 ∷ at words 2 ∷ segment_words words ++ node_words words
  words-parts =
      take-add (3 + 3 * at words 1) (3 * at words 2) words
      ∙ ap (λ (front : List ℕ). front ++ node_words words) (take-add 3 (3 * at words 1) words ∙ ap (λ (front : List ℕ). front ++ segment_words words) three)
    where
      three : take 3 words ≡ at words 0 ∷ at words 1 ∷ at words 2 ∷ []
      three = take-add 2 1 words ∙ ap₂ ◌++◌ (front-two words (omega arith)) (third-word words (omega arith))

  module _ (id : ℕ) where
    -- how many numbers there are
    pub numbers-length : length (numbers_of id words) ≡ 4 + 3 * at words 1 + 3 * at words 2
    numbers-length = omega (arith, length-append (segment_words words) (at words 2 ∷ node_words words), segments-length, nodes-length)

    -- which one stands where: the id, Q and the segments' count,
    pub number-id : at (numbers_of id words) 0 ≡ id
    number-id = refl

    pub number-over : at (numbers_of id words) 1 ≡ at words 0
    number-over = refl

    pub number-segments : at (numbers_of id words) 2 ≡ at words 1
    number-segments = refl

    -- (behind these three the lists)
    behind : (j : ℕ) → at (numbers_of id words) (3 + j) ≡ at (segment_words words ++ at words 2 ∷ node_words words) j
    behind j = get_or-append-add (id ∷ at words 0 ∷ at words 1 ∷ []) (segment_words words ++ at words 2 ∷ node_words words) j 0

    -- the segments' words,
    pub number-segment : (i : ℕ) → i < 3 * at words 1 → at (numbers_of id words) (3 + i) ≡ at words (3 + i)
    number-segment i h =
        behind i ∙ get_or-append (segment_words words) (at words 2 ∷ node_words words) 0 i (rw segments-length h)
        ∙ get_or-take (3 * at words 1) (drop 3 words) i 0 h ∙ get_or-drop 3 words i 0

    -- the nodes' count,
    pub number-nodes : at (numbers_of id words) (3 + 3 * at words 1) ≡ at words 2
    number-nodes = behind (3 * at words 1) ∙ get_or_at (segment_words words) (at words 2) (node_words words) 0 (3 * at words 1) segments-length

    -- and the nodes' words
    pub number-node : (i : ℕ) → i < 3 * at words 2 → at (numbers_of id words) (4 + 3 * at words 1 + i) ≡ at words (3 + 3 * at words 1 + i)
    number-node i h =
        let e : 4 + 3 * at words 1 + i ≡ 3 + (length (segment_words words) + suc i) = omega (arith, segments-length) in
        ap (at (numbers_of id words)) e ∙ behind (length (segment_words words) + suc i) ∙ get_or-append-add (segment_words words) (at words 2 ∷ node_words words) (suc i) 0
        ∙ get_or-take (3 * at words 2) (drop (3 + 3 * at words 1) words) i 0 h ∙ get_or-drop (3 + 3 * at words 1) words i 0

    -- small numbers are a small id and small words
    pub numbers-parts-small : Small (numbers_of id words) → (id < value_limit) × Small (take (count_of words) words)
    numbers-parts-small s =
        let lists = small-behind (small-behind (small-behind s)) in
        let later = small-second (segment_words words) (at words 2 ∷ node_words words) lists in (
          s.each 0,
          rw words-parts (small-before (s.each 1) (small-before (s.each 2) (small-before (later.each 0)
              (small-append (small-first (segment_words words) (at words 2 ∷ node_words words) lists) (small-behind later))))),
        )

    pub parts-numbers-small : id < value_limit → Small (take (count_of words) words) → Small (numbers_of id words)
    parts-numbers-small h t =
        let s : Small (at words 0 ∷ at words 1 ∷ at words 2 ∷ segment_words words ++ node_words words) = rw words-parts at t in
        let lists = small-behind (small-behind (small-behind s)) in
        small-before h (small-before (s.each 0) (small-before (s.each 1)
        (small-append (small-first (segment_words words) (node_words words) lists) (small-before (s.each 2) (small-second (segment_words words) (node_words words) lists)))))

    -- the same of the test, word by word
    pub numbers-small : are_small (numbers_of id words) ≡ true → (id < value_limit) × ((k : ℕ) → k < count_of words → at words k < value_limit)
    numbers-small e = let p = numbers-parts-small (small-values (numbers_of id words) e) in
        (p.0, λ k h. rw (get_or-take (count_of words) words k 0 h) at (p.1.each k))

    pub small-numbers : id < value_limit → ((k : ℕ) → k < count_of words → at words k < value_limit) → are_small (numbers_of id words) ≡ true
    small-numbers h s =
        let all : are_small (take (count_of words) words) ≡ true = values-small (take (count_of words) words) λ k l.
        (let b : k < count_of words = omega (arith, l, length-take (count_of words) words) in rw (get_or-take (count_of words) words k 0 b) (s k b)) in
        values-small (numbers_of id words) λ k l. (parts-numbers-small h (small-values (take (count_of words) words) all)).each k

    -- a big id or a big word makes it fail
    pub big-number : (value_limit ≤ id) ⊎ (are_small (take (count_of words) words) ≡ false) → are_small (numbers_of id words) ≡ false
    big-number big = not-held (are_small (numbers_of id words)) λ e.
        (let p = numbers-parts-small (small-values (numbers_of id words) e) in
        ⊎_elim (λ (h : value_limit ≤ id). omega (arith, p.0)) (λ (f : are_small (take (count_of words) words) ≡ false). true-false (values-small _ λ k l. p.1.each k) f) big)

    -- and the numbers take what the id and the words take
    pub numbers-size : id < value_limit → length (shortest word_more id) + length (all_shortest plan_more (take (count_of words) words)) ≡ length (plan_record_of id words)
    numbers-size h =
        let head = at words 0 ∷ at words 1 ∷ [] in
        let count = at words 2 ∷ [] in
        let segments = segment_words words in
        let nodes = node_words words in
        omega (
          arith,
          ap (length {A = ℕ}) (small-number id h),
          ap (λ (vs : List ℕ). length (all_shortest plan_more vs)) words-parts,
          written-length plan_more (id ∷ []) (head ++ (segments ++ (count ++ nodes))),
          written-length plan_more head (segments ++ (count ++ nodes)),
          written-length plan_more segments (count ++ nodes),
          written-length plan_more count nodes,
          written-length plan_more head (count ++ (segments ++ nodes)),
          written-length plan_more count (segments ++ nodes),
          written-length plan_more segments nodes,
        )

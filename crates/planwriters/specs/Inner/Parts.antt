-- The lists of a plan's words, as they are lent to the functions that write them.
use Rattle.std.specs.Prelude.{ℕ, ◌+◌, ◌*◌, ◌≤◌, List, length, take, drop}
use Rattle.plain.specs.At.{at}
use Rattle.plans.specs.Words.{word_count}

-- the segments' triples
abbrev pub segment_words : (words : List ℕ) → List ℕ
segment_words words = take (3 * at words 1) (drop 3 words)

-- and the nodes', which follow them
abbrev pub node_words : (words : List ℕ) → List ℕ
node_words words = take (3 * at words 2) (drop (3 + 3 * at words 1) words)

-- how many words the counts speak of
abbrev pub count_of : (words : List ℕ) → ℕ
count_of words = word_count (at words 1) (at words 2)

-- there are so many words
abbrev pub Whole : (words : List ℕ) → Type 0
Whole words = count_of words ≤ length words

-- The plan in words: "word 0 is Q, 1 the segment count s, 2 the node count n; then s times (threads, length, deadline numerator); then n
-- times (offset numerator, deadline numerator, density in millionths)".
use Rattle.std.specs.Prelude.{List, [], ◌∷◌, ◌++◌, ℕ, ◌+◌, ◌*◌, drop}
use Rattle.tables.specs.declared.TaskTable.{TaskTable}
use Rattle.tables.specs.Limits.{count_max}
use Rattle.shares.specs.Triples.{triples}
use Rattle.plans.specs.Diagram.{segment_count, threads_in, length_in}
use Rattle.plans.specs.Shares.{over, numerator_of, deadline, offset, density}

-- "Planning returns that number of words": 3 + 3s + 3n
abbrev pub word_count : ℕ → ℕ → ℕ
word_count s n = 3 + 3 * s + 3 * n

-- the most words that a plan has: "fewer than 387 words" are refused
abbrev pub words_max : ℕ
words_max = word_count count_max count_max

-- Q, s, n and the segments' triples
unfoldable pub front_words : TaskTable → List ℕ
front_words t = (over t ∷ segment_count t ∷ t.count ∷ []) ++ triples (threads_in t) (length_in t) (numerator_of t) (segment_count t)

-- the nodes' triples
unfoldable pub node_words : TaskTable → List ℕ
node_words t = triples (offset t) (deadline t) (density t) t.count

-- the lent words after the plan is written: "Words past 3 + 3s + 3n keep their old content"
abbrev pub written : TaskTable → List ℕ → List ℕ
written t words = front_words t ++ node_words t ++ drop (word_count (segment_count t) t.count) words

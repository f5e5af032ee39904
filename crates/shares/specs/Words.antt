-- Where a plan's words stand: "word 0 is Q, 1 the segment count s, 2 the node count n; then s times (threads, length, deadline numerator); then n
-- times (offset numerator, deadline numerator, density in millionths)".
use Rattle.std.specs.Prelude.{List, ℕ, ◌+◌, ◌*◌}
use Rattle.plain.specs.At.{at}

-- the threads of segment j
abbrev pub threads_at : List ℕ → ℕ → ℕ
threads_at w j = at w (3 + 3 * j)

-- its length
abbrev pub length_at : List ℕ → ℕ → ℕ
length_at w j = at w (4 + 3 * j)

-- its deadline numerator
abbrev pub numerator_at : List ℕ → ℕ → ℕ
numerator_at w j = at w (5 + 3 * j)

-- "the part after the last segment": node v's offset numerator
abbrev pub offset_at : List ℕ → ℕ → ℕ
offset_at w v = at w (3 + 3 * at w 1 + 3 * v)

-- its deadline numerator
abbrev pub deadline_at : List ℕ → ℕ → ℕ
deadline_at w v = at w (3 + 3 * at w 1 + (3 * v + 1))

-- its density in millionths
abbrev pub density_at : List ℕ → ℕ → ℕ
density_at w v = at w (3 + 3 * at w 1 + (3 * v + 2))

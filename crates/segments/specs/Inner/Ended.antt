-- The cuts by nodes: entry j of k is a node that finishes where segment j ends, and e has the nodes' finishes.
use Rattle.std.specs.Prelude.{List, ℕ, zero, suc, ◌+◌, ◌*◌, ◌-◌, ◌≤◌, ◌<◌}
use Rattle.plain.specs.At.{at}

-- cut j: where segment j begins, and the one before it ends
abbrev pub ended : (k e : List ℕ) → ℕ → ℕ
ended k e zero = 0
ended k e (suc j) = at e (at k j)

-- the length of segment j: from cut j to the next
abbrev pub length_by : (k e : List ℕ) → ℕ → ℕ
length_by k e j = ended k e (suc j) - ended k e j

-- what the writer of s segments asks: room for their triples after three words, at most 64 threads m each, enders that are nodes, and
-- no cut before an earlier one
pub record CutIn (m k e : List ℕ) (s room : ℕ) : Type 0 where
  pub few : s ≤ 64
  pub fits : 3 + 3 * s ≤ room
  pub threads : (j : ℕ) → j < s → at m j ≤ 64
  pub node : (j : ℕ) → j < s → at k j < 64
  pub up : (j : ℕ) → j < s → ended k e j ≤ ended k e (suc j)

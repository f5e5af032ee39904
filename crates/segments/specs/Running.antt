-- "m_j threads, the nodes running through all of it": over n nodes with starts S and finishes F.
use Rattle.std.specs.Prelude.{◌&&◌, ℕ, suc, leb}
use Rattle.plain.specs.Pick.{one}
use Rattle.sets.specs.Rule.{set_of}
use Rattle.sets.specs.Size.{size}
use Rattle.segments.specs.Cut.{cut}

-- 1 where a node that starts at s and finishes at f runs through all of a..b, else 0
unfoldable pub runs : (s f a b : ℕ) → ℕ
runs s f a b = one (leb s a && leb b f)

-- the set of the nodes that run through all of a..b
unfoldable pub running_in : (n : ℕ) (S F : ℕ → ℕ) (a b : ℕ) → ℕ
running_in n S F a b = set_of n (λ v. runs (S v) (F v) a b)

-- "the set of nodes running there": through all of segment j
unfoldable pub running : (n : ℕ) (S F : ℕ → ℕ) (j : ℕ) → ℕ
running n S F j = running_in n S F (cut n F j) (cut n F (suc j))

-- "m_j is the number of ones in the set of nodes running there"
unfoldable pub threads : (n : ℕ) (S F : ℕ → ℕ) (j : ℕ) → ℕ
threads n S F j = size (running n S F j)

-- Refusal 10 as a test that computes: rows of nodes that grow until each holds all that its node reaches.
use Rattle.std.specs.Prelude.{Bool, false, ◌||◌, List, ℕ, zero, suc, max}
use Rattle.plain.specs.Pick.{pick}
use Rattle.plain.specs.At.{at, tab}
use Rattle.sets.specs.Member.{bit, is_member}
use Rattle.sets.specs.Rule.{set_of}

-- the numbers below n that are members of a or of b
unfoldable pub union : ℕ → ℕ → ℕ → ℕ
union n a b = set_of n (λ k. max (bit k a) (bit k b))

-- row v after ways through k: where v reaches k, v reaches all that k reaches
abbrev pub through : ℕ → ℕ → (ℕ → ℕ) → ℕ → ℕ
through n k R v = pick (is_member k (R v)) (union n (R v) (R k)) (R v)

-- every row after ways through k
unfoldable pub stage : ℕ → ℕ → List ℕ → List ℕ
stage n k R = tab n (through n k (at R))

-- at first row v holds the parents of v; after k stages, all that v reaches by ways whose inner nodes are below k
unfoldable pub stages : List ℕ → ℕ → ℕ → List ℕ
stages P n zero = P
stages P n (suc k) = stage n k (stages P n k)

-- row v: the nodes that v reaches
unfoldable pub reach : List ℕ → ℕ → List ℕ
reach P n = stages P n n

-- whether the test holds of some number below n
unfoldable pub some : ℕ → (ℕ → Bool) → Bool
some zero f = false
some (suc n) f = some n f || f n

-- whether v is reached from itself: v is in its own row
abbrev pub goes_round : List ℕ → (n v : ℕ) → Bool
goes_round P n v = is_member v (at (reach P n) v)

-- "some node is reached from itself by one or more parent edges"
unfoldable pub loops : List ℕ → ℕ → Bool
loops P n = some n (goes_round P n)

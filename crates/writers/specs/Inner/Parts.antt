-- The numbers of a record in the parts in which they are written.
use Rattle.std.specs.Prelude.{ℕ, zero, suc, List, [], ◌∷◌, ◌++◌}
use Rattle.plain.specs.At.{at}
use Rattle.writers.specs.Record.{node_numbers}

-- the numbers before the nodes
abbrev pub head_numbers : (edition id period n : ℕ) → List ℕ
head_numbers x d p n = x ∷ d ∷ p ∷ n ∷ []

-- those of the nodes before node i
unfoldable pub nodes_to : (executions parents : List ℕ) (i : ℕ) → List ℕ
nodes_to X P zero = []
nodes_to X P (suc i) = nodes_to X P i ++ node_numbers (at X i) (at P i)

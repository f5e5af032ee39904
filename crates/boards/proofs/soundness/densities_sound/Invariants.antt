use mathlib.Core.Path.{◌≡◌}
use mathlib.Core.Bool.{Bool, true}
use mathlib.Core.List.{List}
use Prim.Native.Nat.{ℕ, ◌%◌, ◌<◌}
use Rattle.plain.proofs.Lists.{Filled}
use Rattle.sets.specs.Member.{Member}
use Rattle.boards.specs.declared.Row.{Row}
use Rattle.boards.specs.Row.{rows_max, row_at}
use Rattle.plain.specs.Tests.{both, all_to}
use Rattle.boards.specs.Sound.{is_new}
use Rattle.boards.specs.Inner.Halves.{densities_fit}
use Rattle.boards.proofs.Sound.{ids_of}
use Rattle.boards.proofs.soundness.densities_sound.Given as goal

-- the test of one row
abbrev pub passes : List Row → ℕ → Bool
passes rows k = both (densities_fit (row_at rows k)) (is_new (ids_of rows) k)

-- the ids of the first k rows stand in the array
abbrev pub Ids : List Row → ℕ → List ℕ → Type 0
Ids rows k ids = Filled (ids_of rows) (λ i. 0) rows_max k ids

-- their remainders stand in the set
abbrev pub Remainders : List Row → ℕ → ℕ → Type 0
Remainders rows k s = (i : ℕ) → i < k → Member ((row_at rows i).id % 64) s

abbrev pub invariant-loop-k : goal.invariant-loop-k
invariant-loop-k l = (all_to l.k (passes l.board.rows) ≡ true) × Ids l.board.rows l.k l.ids × Remainders l.board.rows l.k l.remainders

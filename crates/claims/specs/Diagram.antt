-- "Timing diagram and segments", of every table without a loop: its starts, path, cuts and offsets are what document 01's sentences say, and
-- nothing else is; so nobody has to trust the rounds and steps of their definitions.
use Rattle.std.specs.Prelude.{◌≡◌, ℕ, suc, ◌+◌, ◌≤◌, ◌<◌}
use Rattle.plain.specs.At.{at}
use Rattle.sets.specs.Member.{Member}
use Rattle.sets.specs.Greatest.{greatest}
use Rattle.tables.specs.declared.TaskTable.{TaskTable}
use Rattle.tables.specs.Cost.{CostedRange}
use Rattle.ways.specs.Reaches.{Loops}
use Rattle.segments.specs.Cut.{cut}
use Rattle.segments.specs.Cutting.{Cutting}
use Rattle.segments.specs.Running.{running}
use Rattle.plans.specs.Diagram.{start, finish, path, segment_count}
use Rattle.plans.specs.Shares.{deadline, offset, density}

-- each node's B is "0 without parents, else the greatest parent's" B plus W
abbrev pub Follows : TaskTable → (W B : ℕ → ℕ) → Type 0
Follows t W B = (v : ℕ) → v < t.count → B v ≡ greatest t.count (at t.parents v) (λ p. B p + W p)

-- B follows so, and nothing else does
pub record Ruled (t : TaskTable) (W B : ℕ → ℕ) : Type 0 where
  pub follows : Follows t W B
  pub only : (A : ℕ → ℕ) → Follows t W A → (v : ℕ) → v < t.count → A v ≡ B v

-- c 0, .. c s are 0, the table's starts and its finishes, each once, ascending, and nothing else
abbrev pub Cuts : TaskTable → (s : ℕ) (c : ℕ → ℕ) → Type 0
Cuts t s c = Cutting t.count (start t) (finish t) s c

-- the cuts that the table's segments lie between
abbrev pub cut_of : TaskTable → ℕ → ℕ
cut_of t j = cut t.count (finish t) j

-- P is the greatest of the finishes F of n nodes
pub record IsLatest (n : ℕ) (F : ℕ → ℕ) (P : ℕ) : Type 0 where
  pub reached : (v : ℕ) × (v < n) × (F v ≡ P)
  pub most : (v : ℕ) → v < n → F v ≤ P

-- "A node with 0 runs in no segment, has deadline 0, density 0 and the usual offset", which is that of `offsets` below
pub record Join (t : TaskTable) (v : ℕ) : Type 0 where
  pub no-segment : (j : ℕ) → j < segment_count t → Member v (running t.count (start t) (finish t) j) → ⊥
  pub no-deadline : deadline t v ≡ 0
  pub no-density : density t v ≡ 0

-- the sentences
pub record Timed (t : TaskTable) : Type 0 where
  -- "A node without parents starts at 0; any other starts at the latest finish of its parents"
  pub starts : Ruled t (at t.execution) (start t)
  -- "Finish is start plus execution"
  pub finishes : (v : ℕ) → v < t.count → finish t v ≡ start t v + at t.execution v
  -- "path P the latest finish"
  pub path-latest : IsLatest t.count (finish t) (path t)
  -- "Cut [0, P] at every start and finish"; there is one way to
  pub cuts : Cuts t (segment_count t) (cut_of t)
  pub only-cuts : (s : ℕ) (c : ℕ → ℕ) → Cuts t s c → (s ≡ segment_count t) × ((j : ℕ) → j ≤ s → c j ≡ cut_of t j)
  -- "There are at most n segments"
  pub few-segments : segment_count t ≤ t.count
  -- "Its offset is 0 without parents, else the greatest parent's offset plus deadline"
  pub offsets : Ruled t (deadline t) (offset t)
  -- each node with execution 0 is a join
  pub joins : (v : ℕ) → v < t.count → at t.execution v ≡ 0 → Join t v
  -- and adds no cut: after 0, each cut is the finish of a node that runs
  pub run-cuts : (j : ℕ) → j < segment_count t → (v : ℕ) × (v < t.count) × (1 ≤ at t.execution v) × (finish t v ≡ cut_of t (suc j))

-- they hold of every table in range, with any cost, in which no node is reached from itself, so also of those that 11 refuses
abbrev pub TablesTimed : Type 0
TablesTimed = (t : TaskTable) → CostedRange t → (Loops t.parents t.count → ⊥) → Timed t

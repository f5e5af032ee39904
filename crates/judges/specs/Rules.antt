-- The eight rules as statements, each by its number, of a plan's words w for a task t.
use Rattle.std.specs.Prelude.{◌≡◌, List, ℕ, ◌+◌, ◌*◌, ◌≤◌, ◌<◌}
use Rattle.plain.specs.At.{at}
use Rattle.plain.specs.Sums.{sum_to}
use Rattle.tables.specs.declared.TaskTable.{TaskTable}
use Rattle.tables.specs.Limits.{over_max}
use Rattle.ways.specs.Ways.{begin_by}
use Rattle.segments.specs.Share.{share}
use Rattle.shares.specs.Density.{millionths}
use Rattle.shares.specs.Words.{threads_at, length_at, numerator_at, offset_at, deadline_at, density_at}
use Rattle.plans.specs.Diagram.{start, finish, work, segment_count, threads_in, length_in}

-- rule k is kept: 1, "Q lies in 1.." 8,421,120; 2, "the segments are the task's own cut in number, threads and length"; 3, "numerators sum to period × Q";
-- 4, "each node's deadline is the sum over its segments"; 5, "offsets follow the parents"; 6, "no node's deadline is below half its execution"; 7, "no
-- segment is denser than twice work over period", where a/b ≤ c/d means a × d ≤ c × b; 8, "densities are rounded as ours"
pub data Rule (t : TaskTable) (w : List ℕ) : (k : ℕ) → Type 0 where
  fits : 1 ≤ at w 0 → at w 0 ≤ over_max → Rule t w 1
  cut : at w 1 ≡ segment_count t → ((j : ℕ) → j < segment_count t → (threads_at w j ≡ threads_in t j) × (length_at w j ≡ length_in t j)) → Rule t w 2
  shared : sum_to (at w 1) (numerator_at w) ≡ t.period * at w 0 → Rule t w 3
  summed : ((v : ℕ) → v < t.count → deadline_at w v ≡ share t.count (start t) (finish t) (numerator_at w) v) → Rule t w 4
  followed : ((v : ℕ) → v < t.count → offset_at w v ≡ begin_by t.parents t.count (λ p. offset_at w p + deadline_at w p) v) → Rule t w 5
  halved : ((v : ℕ) → v < t.count → at t.execution v * at w 0 ≤ 2 * deadline_at w v) → Rule t w 6
  thinned : ((j : ℕ) → j < at w 1 → threads_at w j * length_at w j * at w 0 * t.period ≤ 2 * work t * numerator_at w j) → Rule t w 7
  rounded : ((v : ℕ) → v < t.count → density_at w v ≡ millionths (at t.execution v) (at w 0) (deadline_at w v)) → Rule t w 8

-- "The judge accepts exactly when" all eight are kept
abbrev pub KeepsAll : TaskTable → (w : List ℕ) → Type 0
KeepsAll t w = (k : ℕ) → 1 ≤ k → k ≤ 8 → Rule t w k

-- "the number of the first broken rule": this one is broken, and those before it are kept
abbrev pub Breaks : TaskTable → (w : List ℕ) → (k : ℕ) → Type 0
Breaks t w k = (1 ≤ k) × (k ≤ 8) × (Rule t w k → ⊥) × ((i : ℕ) → 1 ≤ i → i < k → Rule t w i)

-- What demand 3 says of every accepted plan, a field for each sentence: of ours, and of a supplier's that the judge accepts.
use Rattle.std.specs.Prelude.{◌≡◌, ℕ, ◌+◌, ◌*◌, ◌≤◌, ◌<◌}
use Rattle.plain.specs.At.{at}
use Rattle.plain.specs.Sums.{sum_to}
use Rattle.sets.specs.Member.{Member}
use Rattle.tables.specs.declared.TaskTable.{TaskTable}
use Rattle.segments.specs.Share.{share}
use Rattle.plans.specs.Diagram.{start, finish, work, segment_count, threads_in, length_in}
use Rattle.plans.specs.Shares.{over, numerator_of, deadline, offset}

-- demand 3: "every accepted plan shares out exactly its period and all its work; no step is released before its parents' deadlines;
-- none has its deadline past the period; no deadline is under half its step's running time; no segment is denser than twice work over
-- period"; of a plan of the task t whose numerators, deadlines and offsets are over Q
pub record KeptBy (t : TaskTable) (Q : ℕ) (numerator deadline offset : ℕ → ℕ) : Type 0 where
  pub over-some : 0 < Q
  pub whole-period : sum_to (segment_count t) numerator ≡ t.period * Q
  pub all-work : sum_to (segment_count t) (λ j. threads_in t j * length_in t j) ≡ work t
  pub each-work : (v : ℕ) → v < t.count → share t.count (start t) (finish t) (length_in t) v ≡ at t.execution v
  pub after-parents : (v p : ℕ) → v < t.count → Member p (at t.parents v) → offset p + deadline p ≤ offset v
  pub within-period : (v : ℕ) → v < t.count → offset v + deadline v ≤ t.period * Q
  pub at-least-half : (v : ℕ) → v < t.count → at t.execution v * Q ≤ 2 * deadline v
  pub thin : (j : ℕ) → j < segment_count t → threads_in t j * length_in t j * Q * t.period ≤ 2 * work t * numerator j

-- the same of our own plan of the task
abbrev pub Kept : TaskTable → Type 0
Kept t = KeptBy t (over t) (numerator_of t) (deadline t) (offset t)

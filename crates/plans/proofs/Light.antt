-- What the rule for light segments means at a site: where a task has segments of both kinds, a light one gets half its length, so a step that runs
-- only in light ones gets half its running time, which is a density of two millions.
use mathlib.Core.Path.{◌≡◌}
use mathlib.Core.Bool.{true, false}
use Prim.Native.Nat.{ℕ, ◌*◌, ◌<◌}
use native.Mathlib.Nat.{mul-pos}
use native.Mathlib.Omega.{arith}
use Rattle.plain.specs.At.{at}
use Rattle.sets.specs.Member.{Member}
use Rattle.tables.specs.declared.TaskTable.{TaskTable}
use Rattle.tables.specs.Limits.{density_max}
use Rattle.segments.specs.Running.{running}
use Rattle.segments.proofs.Shares.{share-halved}
use Rattle.shares.specs.Heavy.{is_heavy}
use Rattle.shares.proofs.Fair.{light-half, over-some}
use Rattle.shares.proofs.Densities.{half-doubles}
use Rattle.plans.specs.Diagram.{start, finish, work, path, segment_count, threads_in, length_in}
use Rattle.plans.specs.Shares.{over, numerator_of, deadline, density}
use Rattle.plans.specs.Inner.Planned.{Planned}
use Rattle.plans.proofs.Table.{drawn, cutting}

module _ {t : TaskTable} (ok : Planned t) (i : ℕ) (in-task : i < segment_count t) (heavy : is_heavy t.period (work t) (path t) (threads_in t i) ≡ true) (v : ℕ) (h : v < t.count)
    (light : (j : ℕ) → j < segment_count t → Member v (running t.count (start t) (finish t) j) → is_heavy t.period (work t) (path t) (threads_in t j) ≡ false) where
  -- twice its deadline is its execution, over Q
  pub light-deadline : 2 * deadline t v ≡ at t.execution v * over t
  unfolding deadline numerator_of
  light-deadline =
      let a = share-halved (drawn ok) (numerator_of t) (over t) v h (λ j l m. let b = light-half t.period (work t) (path t) (segment_count t) (threads_in t) (length_in t) i j in-task heavy l (light j l m) in omega arith) in
      omega arith

  -- so its density is two millions
  pub light-doubles : 0 < at t.execution v → density t v ≡ density_max
  unfolding density
  light-doubles p = half-doubles (at t.execution v) (over t) (deadline t v) (mul-pos p (over-some (cutting ok))) light-deadline

-- The figures of a table's plan, and how they are read in its words. The plan gives every node at least half its execution, so that each density is
-- at most two millions, and a node has a deadline just where it runs; deadlines and densities are the second and third words of the plan's node part.
use mathlib.Core.Path.{◌≡◌, ◌∙◌}
use mathlib.Core.Logic.{⊎_elim}
use mathlib.Core.List.{List}
use Prim.Native.Nat.{ℕ, ◌+◌, ◌*◌, ◌-◌, ◌≤◌, ◌<◌}
use native.Mathlib.Nat.{mul-pos}
use native.Mathlib.Omega.{arith}
use lib.ListN.{length, take, drop, length-drop}
use lib.Seq.{get_or-drop}
use Rattle.plain.specs.At.{at}
use Rattle.plain.proofs.Lists.{lt-or-ge, part-from}
use Rattle.plain.proofs.Sums.{sum_same, max-same}
use Rattle.tables.specs.declared.TaskTable.{TaskTable}
use Rattle.tables.specs.Limits.{count_max, density_max}
use Rattle.segments.proofs.Shares.{share-idle}
use Rattle.shares.specs.Figures.{figures, smallest_to}
use Rattle.shares.proofs.Densities.{density-low, density-high}
use Rattle.shares.proofs.Smallest.{smallest-same, smallest-is, smallest-le}
use Rattle.plans.specs.Diagram.{segment_count}
use Rattle.plans.specs.Shares.{over, numerator_of, deadline, shortest, density}
use Rattle.plans.specs.Words.{word_count, words_max, written}
use Rattle.plans.specs.Inner.Planned.{Planned}
use Rattle.plans.proofs.Table.{drawn}
use Rattle.plans.proofs.Kept.{kept}
use Rattle.plans.proofs.Read.{at-deadline, at-density, length-written, words-fit}

module _ {t : TaskTable} (ok : Planned t) where
  -- a node that runs has a deadline and a density above 0
  pub deadline-some : (v : ℕ) → v < t.count → 1 ≤ at t.execution v → 0 < deadline t v
  deadline-some v h run =
      let half = (kept ok).at-least-half v h in
      let some = mul-pos run (kept ok).over-some in
      omega arith

  -- and a node that has a deadline runs
  deadline-runs : (v : ℕ) → v < t.count → 0 < deadline t v → 1 ≤ at t.execution v
  unfolding deadline
  deadline-runs v h some = ⊎_elim (λ (l : 0 < at t.execution v). l) (λ (z : at t.execution v ≤ 0). absurd (let e = share-idle (drawn ok) (numerator_of t) v h (omega arith) in omega arith)) (lt-or-ge 0 (at t.execution v))

  -- the shortest deadline is that of a node that runs, and none of these has a shorter one
  pub shortest-least : (v : ℕ) → v < t.count → 1 ≤ at t.execution v → (0 < shortest t) × (shortest t ≤ deadline t v)
  unfolding shortest
  shortest-least v h run = smallest-le t.count (deadline t) v h (deadline-some v h run)

  pub shortest-here : (v : ℕ) × (v < t.count) × (1 ≤ at t.execution v) × (shortest t ≡ deadline t v)
  unfolding shortest
  shortest-here =
      let runs = ok.range.some_runs in
      let some = shortest-least runs.0 runs.1 runs.2 in
      ⊎_elim
      (λ (z : smallest_to t.count (deadline t) ≡ 0). absurd (omega arith))
      (λ (w : (v : ℕ) × (v < t.count) × (0 < deadline t v) × (smallest_to t.count (deadline t) ≡ deadline t v)). (w.0, w.1, deadline-runs w.0 w.1 w.2, w.3))
      (smallest-is t.count (deadline t))

  pub density-some : (v : ℕ) → v < t.count → 1 ≤ at t.execution v → 1 ≤ density t v
  unfolding density
  density-some v h run = density-low (at t.execution v) (over t) (deadline t v) run (kept ok).over-some (deadline-some v h run)

  -- no density is above two millions
  pub density-most : (v : ℕ) → v < t.count → density t v ≤ density_max
  unfolding density
  density-most v h = density-high (at t.execution v) (over t) (deadline t v) ((kept ok).at-least-half v h)

module _ (t : TaskTable) (words : List ℕ) where
  -- the part of the written words from the first node on
  abbrev pub node_part : List ℕ
  node_part = drop (3 + 3 * segment_count t) (written t words)

  -- it is the part of the written words that the code lends
  pub part-lent : {w : List ℕ} {from : ℕ} → w ≡ written t words → from ≡ 3 + 3 * segment_count t → take (length w - from) (drop from w) ≡ node_part
  part-lent {w} {from} e k = part-from from w ∙ rw (e, k)

  -- every third word is a density
  density-read : (v : ℕ) → v < t.count → at node_part (3 * v + 2) ≡ density t v
  density-read v h = get_or-drop (3 + 3 * segment_count t) (written t words) (3 * v + 2) 0 ∙ at-density t words v h

  -- the word before it is a deadline
  deadline-read : (v : ℕ) → v < t.count → at node_part (3 * v + 1) ≡ deadline t v
  deadline-read v h = get_or-drop (3 + 3 * segment_count t) (written t words) (3 * v + 1) 0 ∙ at-deadline t words v h

  -- so the figures read there are the task's
  pub figures-read : {part : List ℕ} → part ≡ node_part → figures t.count (λ v. at part (3 * v + 2)) ≡ figures t.count (density t)
  figures-read e = rw (e, sum_same t.count (λ v. at node_part (3 * v + 2)) (density t) density-read, max-same t.count (λ v. at node_part (3 * v + 2)) (density t) density-read)

  pub shortest-read : {part : List ℕ} → part ≡ node_part → smallest_to t.count (λ v. at part (3 * v + 1)) ≡ shortest t
  unfolding shortest
  shortest-read e = rw e (smallest-same t.count (λ v. at node_part (3 * v + 1)) (deadline t) deadline-read)

module _ {t : TaskTable} (ok : Planned t) (words : List ℕ) (room : words_max ≤ length words) where
  -- the whole plan lies inside the words
  pub plan-fits : word_count (segment_count t) t.count ≤ length (written t words)
  plan-fits = let a = words-fit ok in let b = length-written t words (omega arith) in omega arith

  -- and in their node part there is room for every node
  nodes-room : 3 * t.count ≤ length (node_part t words)
  nodes-room = rw length-drop (omega (arith, plan-fits))

  -- what reading the figures there asks
  pub figures-in : {part : List ℕ} → part ≡ node_part t words → ((t.count ≤ count_max) × (3 * t.count ≤ length part)) × ((v : ℕ) → v < t.count → at part (3 * v + 2) ≤ density_max)
  figures-in e = rw e ((ok.range.count-high, nodes-room), λ v h. rw (density-read t words v h) (density-most ok v h))

-- `plans::write_nodes` meets its contract: by the words D at the cuts of a node's start and finish is its offset and its end, and the part behind
-- the last segment is filled with them.
use mathlib.Core.Path.{ap, ◌∙◌}
use Prim.Native.Nat.{ℕ, ◌+◌, ◌*◌, ◌≤◌}
use native.Mathlib.Omega.{arith}
use lib.ListN.{length, length-take, length-drop}
use Rattle.plain.specs.At.{at}
use Rattle.plans.specs.Words.{word_count}
use Rattle.plans.specs.Diagram.{segment_count}
use Rattle.plans.proofs.Nodes.{room, segments-read, sums-in, nodes-in, nodes-so, whole-plan}
use Rattle.plans.proofs.write_nodes.Goals as goal
use Rattle.plans.proofs.write_nodes.Goals.{After-sums_of-sums}

-- the words that are left
pub returns : goal.returns
returns c = λ t d. (
  ap (λ (k : ℕ). 3 + 3 * k + 3 * c.args.n) (segments-read d) ∙ ap (word_count (segment_count t)) d.count,
  whole-plan d (nodes-so d c.sums_of-sums.result c.sums_of-sums.ensures) c.fill_nodes.ensures,
)

pub sums_of-sums-requires : goal.sums_of-sums-requires
sums_of-sums-requires c = sums-in c.requires.1

-- the whole plan fits the words
fits : (c : After-sums_of-sums) → (let a = c.args in 3 + 3 * at a.words.now 1 + 3 * a.n ≤ length a.words.now)
fits c = room c.requires.1

pub overflow_mul-from : goal.overflow_mul-from
overflow_mul-from c = omega (arith, fits (goal.at.overflow_mul-from c).After-sums_of-sums)

pub overflow_add-from : goal.overflow_add-from
overflow_add-from c = omega (arith, fits (goal.at.overflow_add-from c).After-sums_of-sums)

pub offset_bounds-words-from : goal.offset_bounds-words-from
offset_bounds-words-from c = omega (arith, fits (goal.at.offset_bounds-words-from c).After-sums_of-sums)

pub slice_bounds-fill_nodes-count : goal.slice_bounds-fill_nodes-count
slice_bounds-fill_nodes-count c = omega (arith, fits (goal.at.slice_bounds-fill_nodes-count c).After-sums_of-sums)

pub slice_bounds-fill_nodes-start : goal.slice_bounds-fill_nodes-start
slice_bounds-fill_nodes-start c = omega (arith, fits (goal.at.slice_bounds-fill_nodes-start c).After-sums_of-sums)

pub fill_nodes-requires : goal.fill_nodes-requires
fill_nodes-requires c =
    nodes-in c.requires.1 c.sums_of-sums.result c.sums_of-sums.ensures (simp (length-take, length-drop) (omega (arith, fits (goal.at.fill_nodes-requires c).After-sums_of-sums)))

pub overflow_add-result : goal.overflow_add-result
overflow_add-result c = omega (arith, fits (goal.at.overflow_add-result c).After-sums_of-sums)

-- `Task::try_nodes` meets its contract. The loop's invariant: the trial so far is that of the nodes so far; the first refusal stays.
use Prim.Native.Nat.{ℕ, ◌+◌, ◌≤◌, ◌<◌}
use mathlib.Core.Path.{◌≡◌, sym, ap, ap₂, ◌∙◌}
use mathlib.Core.List.{[], ◌∷◌, ◌++◌}
use native.Mathlib.Omega.{arith}
use lib.ListN.{length, length-append}
use borrow.Author.Rules.{rules}
use Rattle.std.proofs.lemmas.Slice.Zip.{zip_turn, zip_end}
use Rattle.plain.specs.At.{at}
use Rattle.refusals.proofs.Out.{goes-out}
use Rattle.writers.specs.Inner.Trial.{node_max, passed, node_tried, nodes_tried}
use Rattle.writers.proofs.Cases.{node-next, nodes-none, nodes-more, nodes-stay}
use Rattle.writers.proofs.Task.try_nodes.Goals as goal
use Rattle.writers.proofs.Task.try_nodes.Goals.{After-try_node, In-Some}

pub loop-execution-init : goal.loop-execution-init
loop-execution-init c = (nodes-none _ _ _ _, omega arith)

-- the node of this turn
turn : (c : In-Some) → (let a = c.args.self in let i = length c.loop-execution.yielded in
    (i < length a.executions.now) × (c.in-Some.execution.now ≡ at a.executions.now i) × (c.in-Some.set.now ≡ at a.parents.now i))
turn c = let a = c.args.self in
    let t = zip_turn a.executions.now a.parents.now c.loop-execution.yielded c.into_iter-execution-iterator.result c.loop-execution.execution-iterator c.next.new.self c.next.result (search rules) (search rules) c.loop-execution.yielded_by (c.in-Some.execution, c.in-Some.set) c.in-Some.is c.next.ensures.steps in
    (t.0, t.2 0, t.3 0)

pub try_node-requires : goal.try_node-requires
try_node-requires c = let t = turn (goal.at.try_node-requires c).In-Some in (omega (arith, c.loop-execution.invariant.1, t.0, c.requires.0), c.requires.0)

-- the trial with its node
more : (c : After-try_node) → (let a = c.args.self in c.try_node.result ≡ nodes_tried c.args.least a.executions.now a.parents.now (passed c.args.from) (length c.loop-execution.yielded + 1))
more c = let a = c.args.self in let t = turn (goal.at-After-try_node c).In-Some in
    c.try_node.ensures ∙ ap₂ (λ (e w : ℕ). node_tried c.args.least (length a.executions.now) e w (passed c.loop-execution.next)) t.1 t.2
    ∙ nodes-more c.args.least a.executions.now a.parents.now (passed c.args.from) (length c.loop-execution.yielded) c.loop-execution.invariant.0

pub returns-in_err-next : goal.returns-in_err-next
returns-in_err-next c = let a = c.args.self in let w = (goal.at.returns-in_err-next c).After-try_node in let t = turn (goal.at-After-try_node w).In-Some in
    goes-out _ _ c.from_residual.ensures.1 ∙ sym (nodes-stay c.args.least a.executions.now a.parents.now (passed c.args.from) (length c.loop-execution.yielded + 1) (length a.executions.now) _ (omega (arith, t.0)) (sym (more w) ∙ c.in_err-next.was))

pub loop-execution-preserved : goal.loop-execution-preserved
loop-execution-preserved c =
    let i : length (c.loop-execution.yielded ++ (c.in-Some.execution, c.in-Some.set) ∷ []) ≡ length c.loop-execution.yielded + 1 = length-append _ _ in
    let near : c.in_ok-next.next ≤ c.loop-execution.next + node_max = node-next _ _ _ _ _ _ c.requires.0 c.in_ok-next.ensures in
    rw i (sym c.in_ok-next.was ∙ more (goal.at.loop-execution-preserved c).After-try_node, omega (arith, c.loop-execution.invariant.1))

pub returns : goal.returns
returns c = let a = c.args.self in
    let all = zip_end a.executions.now a.parents.now c.loop-execution.yielded c.into_iter-execution-iterator.result c.loop-execution.execution-iterator c.next.new.self c.next.result (search rules) (search rules) c.loop-execution.yielded_by c.in-None.is c.next.ensures.steps in
    let n : length c.loop-execution.yielded ≡ length a.executions.now = omega (arith, a.same_length) in
    c.loop-execution.invariant.0 ∙ ap (nodes_tried c.args.least a.executions.now a.parents.now (passed c.args.from)) n

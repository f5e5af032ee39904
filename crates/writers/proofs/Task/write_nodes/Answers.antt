-- `Task::write_nodes` meets its contract. The loop's invariant: the numbers of the nodes so far are written.
use Prim.Native.Nat.{◌+◌, ◌<◌}
use mathlib.Core.Path.{◌≡◌, refl, ◌∙◌}
use mathlib.Core.List.{[], ◌∷◌, ◌++◌}
use native.Mathlib.Omega.{arith}
use lib.ListN.{length, length-append}
use borrow.Author.Rules.{rules}
use Rattle.std.proofs.lemmas.Slice.Zip.{zip_turn, zip_end}
use Rattle.plain.specs.At.{at}
use Rattle.numbers.specs.Number.{record_more}
use Rattle.numbers.proofs.Written.{wrote_none, wrote-more, room_after}
use Rattle.writers.specs.Record.{node_numbers}
use Rattle.writers.specs.Inner.Parts.{nodes_to}
use Rattle.writers.proofs.Parts.{nodes-next, nodes-split}
use Rattle.writers.proofs.Task.write_nodes.Goals as goal
use Rattle.writers.proofs.Task.write_nodes.Goals.{In-Some}

pub loop-execution-init : goal.loop-execution-init
unfolding nodes_to
loop-execution-init c = (wrote_none record_more _ _, refl)

-- the node of this turn
turn : (c : In-Some) → (let a = c.args.self in let i = length c.loop-execution.yielded in
    (i < length a.executions.now) × (c.in-Some.execution.now ≡ at a.executions.now i) × (c.in-Some.set.now ≡ at a.parents.now i))
turn c = let a = c.args.self in
    let t = zip_turn a.executions.now a.parents.now c.loop-execution.yielded c.into_iter-execution-iterator.result c.loop-execution.execution-iterator c.next.new.self c.next.result (search rules) (search rules) c.loop-execution.yielded_by (c.in-Some.execution, c.in-Some.set) c.in-Some.is c.next.ensures.steps in
    (t.0, t.2 0, t.3 0)

pub write_node-requires : goal.write_node-requires
write_node-requires c = let t = turn (goal.at.write_node-requires c).In-Some in
    let more = nodes-split c.args.self.executions.now c.args.self.parents.now (length c.loop-execution.yielded) _ t.0 in
    rw (t.1, t.2) (c.requires.executions_len _, room_after c.loop-execution.invariant.0 (node_numbers _ _) more.0 (rw more.1 at c.requires.executions_in_bounds))

pub loop-execution-preserved : goal.loop-execution-preserved
loop-execution-preserved c = let a = c.args.self in let t = turn (goal.at.loop-execution-preserved c).In-Some in
    let n : length (c.loop-execution.yielded ++ (c.in-Some.execution, c.in-Some.set) ∷ []) ≡ length c.loop-execution.yielded + 1 = length-append _ _ in
    rw (n, nodes-next a.executions.now a.parents.now (length c.loop-execution.yielded), ← t.1, ← t.2) (wrote-more c.loop-execution.invariant.0 (record { bytes = c.write_node.ensures.bytes_after; place = c.write_node.ensures.place }), c.write_node.ensures.same_reference ∙ c.loop-execution.invariant.1)

pub returns : goal.returns
returns c = let a = c.args.self in
    let all = zip_end a.executions.now a.parents.now c.loop-execution.yielded c.into_iter-execution-iterator.result c.loop-execution.execution-iterator c.next.new.self c.next.result (search rules) (search rules) c.loop-execution.yielded_by c.in-None.is c.next.ensures.steps in
    let n : length c.loop-execution.yielded ≡ length a.executions.now = omega (arith, a.same_length) in
    let w = rw n at c.loop-execution.invariant.0 in
    record { same_reference = c.loop-execution.invariant.1; place = w.place; bytes_after = w.bytes }

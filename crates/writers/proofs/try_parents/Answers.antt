-- `writers::try_parents` meets its contract: the members of the set among all numbers below n are those below n, and its test is that of `parents_tried`.
use mathlib.Core.Path.{◌≡◌, sym, ap, ◌∙◌}
use Prim.Native.Nat.{ℕ, ◌+◌}
use native.Mathlib.Omega.{arith}
use lib.Bits.{bit_and}
use Rattle.std.specs.Prelude.{Err}
use Rattle.refusals.specs.Numbers.{bad_parent}
use Rattle.refusals.specs.declared.Refusal.{Refusal}
use Rattle.sets.specs.Size.{size_to, size}
use Rattle.sets.proofs.Sizes.{size-full}
use Rattle.sets.proofs.Words.{size-under}
use Rattle.writers.specs.Inner.Trial.{passed, stopped}
use Rattle.writers.proofs.Cases.{parents-out, parents-in}
use Rattle.writers.proofs.try_parents.Goals as goal
use Rattle.writers.proofs.try_parents.Goals.{After-size_of-nodes}

-- the parents that are nodes
nodes : (c : After-size_of-nodes) → (let a = c.args in c.size_of-nodes.result ≡ size_to a.n a.set)
nodes c = c.size_of-nodes.ensures ∙ ap (λ (w : ℕ). size (bit_and c.args.set w)) c.all_below.ensures ∙ size-under 64 _ _ c.requires.1

pub overflow_add-next : goal.overflow_add-next
overflow_add-next c = omega (arith, nodes (goal.at.overflow_add-next c).After-size_of-nodes, size-full c.args.n c.args.set)

pub returns-then-nodes-size_of : goal.returns-then-nodes-size_of
returns-then-nodes-size_of c = let a = c.args in let m = nodes (goal.at.returns-then-nodes-size_of c).After-size_of-nodes in
    ap (λ (r : Refusal). Err r) c.at.ensures ∙ ap (λ (k : ℕ). stopped bad_parent (a.place + k)) m
    ∙ sym (parents-out _ _ _ (rw (← m, ← c.size_of.ensures) c.if-nodes-size_of.true))

pub returns : goal.returns
returns c = let a = c.args in let m = nodes (goal.at.returns c).After-size_of-nodes in
    ap (λ (k : ℕ). passed (a.place + k)) m ∙ sym (parents-in _ _ _ (rw (← m, ← c.size_of.ensures) c.if-nodes-size_of.false))

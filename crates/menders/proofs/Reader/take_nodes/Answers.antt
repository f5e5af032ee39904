-- `Reader::take_nodes` meets its contract. The loop's invariant: the nodes still to be taken, put into the table so far, make the whole draft; each
-- node adds one to the lists reordered at most, and 255 to the parents dropped.
use Prim.Native.Nat.{ℕ}
use mathlib.Core.Path.{sym, ap, ◌∙◌}
use native.Mathlib.Omega.{arith}
use lib.ListN.{length, length-set}
use Rattle.refusals.specs.declared.Refusal.{Refusal}
use Rattle.refusals.proofs.Out.{goes-out}
use Rattle.listings.specs.Lists.{given_max}
use Rattle.menders.specs.Listed.{Listed}
use Rattle.menders.specs.Draft.{undrawn}
use Rattle.menders.specs.Inner.Reader.{drawn_from}
use Rattle.menders.proofs.Cases.{then-read, then-refused, then-found, then-none, some_more, none_more, nodes-none, nodes-more}
use Rattle.menders.proofs.Inside.{along, list-along, Few, parents-bounded}
use Rattle.menders.proofs.Reader.take_nodes.Goals as goal
use Rattle.menders.proofs.Reader.take_nodes.Goals.{In_ok-execution, In_ok-list}

pub returns-in_err-execution : goal.returns-in_err-execution
returns-in_err-execution c = let l = c.loop-v in
    ap (drawn_from _) (goes-out _ _ c.from_residual.ensures.1)
    ∙ sym (l.invariant.0 ∙ nodes-more _ _ _ _ _ _ _ _ l.invariant.1 c.loop-v-test.true l.invariant.2 ∙ then-refused _ _ _ _ (along _ _ _ _ l.invariant.3 c.in_err-execution.ensures.step))

pub returns-in_err-list : goal.returns-in_err-list
returns-in_err-list c = let l = c.loop-v in
    ap (drawn_from _) (goes-out _ _ c.from_residual-in_err-list.ensures.1)
    ∙ sym (l.invariant.0 ∙ nodes-more _ _ _ _ _ _ _ _ l.invariant.1 c.loop-v-test.true l.invariant.2
    ∙ then-read _ _ _ _ (along _ _ _ _ l.invariant.3 c.in_ok-execution.ensures.step) ∙ then-none _ _ _ _ (list-along _ _ (c.in_ok-execution.ensures.bytes ∙ l.invariant.3) c.in_err-list.ensures.list))

-- a node's list
list : In_ok-list → Listed
list c = let l = c.in_ok-list.list in record { set = l.set; reordered = l.reordered; dropped = l.dropped; spot = c.take_parents.new.self.spot }

few : (c : In_ok-list) → Few given_max (list c)
unfolding list
few c = parents-bounded _ _ _ _ c.in_ok-list.ensures.list c.take_number.new.self.within

pub overflow_add-counts : goal.overflow_add-counts
unfolding list
overflow_add-counts c = let b = few (goal.at.overflow_add-counts c).In_ok-list in omega (arith, b.once)

pub overflow_add-counts-in-loop-v : goal.overflow_add-counts-in-loop-v
unfolding list
overflow_add-counts-in-loop-v c = let b = few (goal.at.overflow_add-counts-in-loop-v c).In_ok-list in omega (arith, b.fewer)

pub loop-v-preserved : goal.loop-v-preserved
unfolding list
loop-v-preserved c = let l = c.loop-v in let b = few (goal.at.loop-v-preserved c).In_ok-list in (
  l.invariant.0 ∙ nodes-more _ _ _ _ _ _ _ _ l.invariant.1 c.loop-v-test.true l.invariant.2
      ∙ then-read _ _ _ _ (along _ _ _ _ l.invariant.3 c.in_ok-execution.ensures.step)
      ∙ then-found _ _ _ _ (list-along _ _ (c.in_ok-execution.ensures.bytes ∙ l.invariant.3) c.in_ok-list.ensures.list),
  l.invariant.1,
  l.invariant.2,
  c.in_ok-list.ensures.bytes ∙ c.in_ok-execution.ensures.bytes ∙ l.invariant.3,
  simp length-set l.invariant.4,
  simp length-set l.invariant.5,
  omega (arith, b.once),
  omega (arith, b.fewer),
)

pub returns-then-self : goal.returns-then-self
returns-then-self c = let l = c.loop-v in
    ap (λ (r : Refusal). undrawn r) c.at.ensures
    ∙ sym (l.invariant.0 ∙ nodes-none _ _ _ _ _ _ _ c.loop-v-test.false ∙ some_more _ _ _ _ _ (omega (arith, c.if-self.true, ap (length {A = ℕ}) l.invariant.3)))

pub returns : goal.returns
returns c = let l = c.loop-v in
    sym (l.invariant.0 ∙ nodes-none _ _ _ _ _ _ _ c.loop-v-test.false ∙ none_more _ _ _ _ _ (omega (arith, c.if-self.false, ap (length {A = ℕ}) l.invariant.3)))

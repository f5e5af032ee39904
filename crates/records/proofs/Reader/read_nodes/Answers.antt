-- `records::Reader::read_nodes` meets its contract. The loop's invariant: the nodes still to be read, put into the table so far, make the whole reading.
use Prim.Native.Nat.{◌-◌}
use mathlib.Core.Path.{◌≡◌, refl, sym, ap, ◌∙◌}
use native.Mathlib.Omega.{arith}
use lib.ListN.{length-set}
use borrow.Author.Rules.{rules}
use Rattle.refusals.proofs.Out.{goes-out}
use Rattle.refusals.specs.Refusal.{on_outcome}
use Rattle.records.specs.Nodes.{table_read, no_table}
use Rattle.records.specs.Parents.{parent_set}
use Rattle.records.specs.Step.{read}
use Rattle.records.proofs.Cases.{then-read, then-refused, nodes-none, nodes-more}
use Rattle.records.proofs.Reader.read_nodes.Goals as goal
use Rattle.records.proofs.Reader.read_nodes.Goals.{In_ok-set}

pub loop-i-init : goal.loop-i-init
loop-i-init c = let n = c.args.table.now.count in let e : n - 0 ≡ n = omega arith in
    (rw e, c.least_execution-least.ensures, refl, search rules, search rules, refl)

-- a node's parent set, read from the place after its execution
set : (c : In_ok-set) → parent_set c.args.table.now.count c.loop-i.self.bytes.now c.read_ranged.new.self.at ≡ read c.in_ok-set.set c.read_parent_set.new.self.at
set c = rw (sym c.in_ok-execution.ensures.record) (sym c.in_ok-set.ensures.step)

pub returns-in_err-execution : goal.returns-in_err-execution
returns-in_err-execution c = let l = c.loop-i in
    ap (on_outcome no_table (table_read _)) (goes-out _ _ c.from_residual.ensures.1)
    ∙ sym (l.invariant.0 ∙ nodes-more _ _ _ _ _ _ l.invariant.1 (omega arith) l.invariant.2 ∙ then-refused _ _ _ _ (sym c.in_err-execution.ensures.step))

pub returns-in_err-set : goal.returns-in_err-set
returns-in_err-set c = let l = c.loop-i in
    ap (on_outcome no_table (table_read _)) (goes-out _ _ c.from_residual-in_err-set.ensures.1)
    ∙ sym (l.invariant.0 ∙ nodes-more _ _ _ _ _ _ l.invariant.1 (omega arith) l.invariant.2 ∙ then-read _ _ _ _ _ (sym c.in_ok-execution.ensures.step)
    ∙ then-refused _ _ _ _ (rw (sym c.in_ok-execution.ensures.record) (sym c.in_err-set.ensures.step)))

pub loop-i-preserved : goal.loop-i-preserved
loop-i-preserved c = let l = c.loop-i in (
  l.invariant.0 ∙ nodes-more _ _ _ _ _ _ l.invariant.1 (omega arith) l.invariant.2 ∙ then-read _ _ _ _ _ (sym c.in_ok-execution.ensures.step)
      ∙ then-read _ _ _ _ _ (set (goal.at.loop-i-preserved c).In_ok-set) ∙ rw (c.in_ok-set.ensures.record, c.in_ok-execution.ensures.record),
  l.invariant.1,
  l.invariant.2,
  simp length-set l.invariant.3,
  simp length-set l.invariant.4,
  c.in_ok-set.ensures.record ∙ c.in_ok-execution.ensures.record ∙ l.invariant.5,
)

pub returns : goal.returns
returns c = c.nothing_follows.ensures ∙ sym (c.loop-i.invariant.0 ∙ nodes-none _ _ _ _ _ (omega arith))

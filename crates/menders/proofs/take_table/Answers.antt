-- `menders::take_table` meets its contract: its four numbers are those of `draft_of`'s head, and the nodes after them are the rest.
use mathlib.Core.Path.{◌≡◌, sym, ap, ap₂, ◌∙◌}
use mathlib.Core.List.{List}
use Prim.Native.Nat.{ℕ}
use Rattle.refusals.specs.Numbers.{bad_count}
use Rattle.refusals.proofs.Out.{goes-out}
use Rattle.tables.specs.declared.TaskTable.{TaskTable}
use Rattle.tables.specs.Limits.{count_max}
use Rattle.menders.specs.Draft.{nodes_taken, draft_of}
use Rattle.menders.specs.Inner.Reader.{drawn_from}
use Rattle.menders.proofs.Cases.{then-read, then-refused}
use Rattle.menders.proofs.Inside.{passed, along}
use Rattle.menders.proofs.take_table.Goals as goal
use Rattle.menders.proofs.take_table.Goals.{In_ok-id, In_ok-period}

pub returns-in_err-edition : goal.returns-in_err-edition
unfolding draft_of
returns-in_err-edition c = ap (drawn_from _) (goes-out _ _ c.from_residual.ensures.1) ∙ sym (then-refused _ _ _ _ (sym c.in_err-edition.ensures.step))

pub returns-in_err-id : goal.returns-in_err-id
unfolding draft_of
returns-in_err-id c =
    ap (drawn_from _) (goes-out _ _ c.from_residual-in_err-id.ensures.1)
    ∙ sym (then-read _ _ _ _ (sym c.in_ok-edition.ensures.step) ∙ then-refused _ _ _ _ (along _ _ _ _ c.in_ok-edition.ensures.bytes c.in_err-id.ensures.step))

-- the bytes stay
after-id : (c : In_ok-id) → c.take_number-2.new.self.bytes.now ≡ c.args.bytes.now
after-id c = c.in_ok-id.ensures.bytes ∙ c.in_ok-edition.ensures.bytes

after-period : (c : In_ok-period) → c.take_number-3.new.self.bytes.now ≡ c.args.bytes.now
after-period c = c.in_ok-period.ensures.bytes ∙ after-id (goal.at-In_ok-period c).In_ok-id

pub returns-in_err-period : goal.returns-in_err-period
unfolding draft_of
returns-in_err-period c =
    ap (drawn_from _) (goes-out _ _ c.from_residual-in_err-period.ensures.1)
    ∙ sym (then-read _ _ _ _ (sym c.in_ok-edition.ensures.step) ∙ then-read _ _ _ _ (along _ _ _ _ c.in_ok-edition.ensures.bytes c.in_ok-id.ensures.step)
    ∙ then-refused _ _ _ _ (along _ _ _ _ (after-id (goal.at.returns-in_err-period c).In_ok-id) c.in_err-period.ensures.step))

pub returns-in_err-count : goal.returns-in_err-count
unfolding draft_of
returns-in_err-count c =
    ap (drawn_from _) (goes-out _ _ c.from_residual-in_err-count.ensures.1)
    ∙ sym (then-read _ _ _ _ (sym c.in_ok-edition.ensures.step) ∙ then-read _ _ _ _ (along _ _ _ _ c.in_ok-edition.ensures.bytes c.in_ok-id.ensures.step)
    ∙ then-read _ _ _ _ (along _ _ _ _ (after-id (goal.at.returns-in_err-count c).In_ok-id) c.in_ok-period.ensures.step)
    ∙ then-refused _ _ _ _ (along _ _ _ _ (after-period (goal.at.returns-in_err-count c).In_ok-period) c.in_err-count.ensures.step))

pub take_nodes-requires : goal.take_nodes-requires
take_nodes-requires c = let p = passed bad_count 1 count_max _ _ _ c.in_ok-count.ensures.step c.take_number-3.new.self.within in (p.least, p.most)

pub returns : goal.returns
unfolding draft_of
returns c =
    let x = c.in_ok-edition.edition in
    let d = c.in_ok-id.id in
    let p = c.in_ok-period.period in
    let n = c.in_ok-count.count in
    c.take_nodes.ensures
    ∙ ap₂ (λ (t : TaskTable) (s : List ℕ). nodes_taken n 0 (record { edition = x; id = d; period = p; count = n; execution = t.execution; parents = t.parents }) 0 0 s c.take_number-4.new.self.spot)
    c.requires (c.in_ok-count.ensures.bytes ∙ after-period (goal.at.returns c).In_ok-period)
    ∙ sym (then-read _ _ _ _ (sym c.in_ok-edition.ensures.step) ∙ then-read _ _ _ _ (along _ _ _ _ c.in_ok-edition.ensures.bytes c.in_ok-id.ensures.step)
    ∙ then-read _ _ _ _ (along _ _ _ _ (after-id (goal.at.returns c).In_ok-id) c.in_ok-period.ensures.step)
    ∙ then-read _ _ _ _ (along _ _ _ _ (after-period (goal.at.returns c).In_ok-period) c.in_ok-count.ensures.step))

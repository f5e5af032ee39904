-- `menders::write_mended` meets its contract: the draft is the definition's, and the writer is handed its table.
use mathlib.Core.Path.{refl, sym, ap, ◌∙◌}
use mathlib.Core.List.{List}
use Prim.Native.Nat.{ℕ}
use Rattle.std.specs.Prelude.{Result}
use Rattle.refusals.specs.declared.Refusal.{Refusal}
use Rattle.refusals.proofs.Out.{goes-out}
use Rattle.menders.specs.declared.Counts.{Counts}
use Rattle.menders.specs.declared.Draft.{Draft}
use Rattle.menders.specs.Mending.{Mended, mending_of}
use Rattle.menders.proofs.Calls.{counted-all, call-refused, filling, call-put, put-refused}
use Rattle.menders.proofs.write_mended.Goals as goal

-- what a call leaves
left : List ℕ → Result (ℕ × Counts) Refusal → Mended
left bytes o = record { after = record { answer = (mending_of o).answer; lent = bytes }; counts = (mending_of o).counts }

pub returns-in_err-draft : goal.returns-in_err-draft
unfolding left
returns-in_err-draft c =
    ap (left c.args.bytes.now) (goes-out _ _ c.from_residual.ensures.1)
    ∙ sym (call-refused c.args.given.now c.args.bytes.now _ (ap (λ (d : Draft). d.outcome) (sym c.read_draft-draft.ensures) ∙ c.in_err-draft.was))

pub write_table-requires : goal.write_table-requires
write_table-requires c = (filling _ c.args.bytes.now c.read_draft-draft.result c.read_draft-draft.ensures c.in_ok-draft.was).size.1

pub returns-in_err-size : goal.returns-in_err-size
unfolding left
returns-in_err-size c =
    ap (left c.write_table.new.bytes) (goes-out _ _ c.from_residual-in_err-size.ensures.1)
    ∙ put-refused _ _ c.read_draft-draft.result c.read_draft-draft.ensures c.in_ok-draft.was _ _ c.in_err-size.ensures.outcome c.in_err-size.ensures.bytes_after

pub returns : goal.returns
returns c = sym (call-put _ _ c.read_draft-draft.result c.read_draft-draft.ensures c.in_ok-draft.was _ c.in_ok-size.ensures.bytes_after ∙ counted-all _ _ refl)

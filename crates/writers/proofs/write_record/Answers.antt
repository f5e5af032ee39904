-- `writers::write_record` meets its contract: lists of one length are written as their table, and others are refused first.
use mathlib.Core.Path.{sym, ap, ◌∙◌}
use mathlib.Core.List.{List}
use Prim.Native.Nat.{ℕ}
use Rattle.refusals.specs.declared.Answer.{Answer}
use Rattle.refusals.specs.Answer.{refused}
use Rattle.refusals.specs.After.{After}
use Rattle.writers.proofs.Calls.{call-unequal, call-writing}
use Rattle.writers.proofs.write_record.Goals as goal

-- an answer beside the bytes
with-bytes : List ℕ → Answer → After (List ℕ)
with-bytes bytes answer = record { answer = answer; lent = bytes }

pub returns-then-executions-parents : goal.returns-then-executions-parents
unfolding with-bytes
returns-then-executions-parents c =
    ap (with-bytes c.args.bytes.now) (c.refused.ensures ∙ ap refused c.at.ensures) ∙ sym (call-unequal _ _ _ _ _ _ c.if-executions-parents.true)

pub returns : goal.returns
unfolding with-bytes
returns c = ap (with-bytes c.write.new.bytes) c.from.ensures ∙ c.write.ensures.bytes_after ∙ sym (call-writing _ _ _ _ _ _ c.if-executions-parents.false)

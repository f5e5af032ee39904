-- `files::record_at` meets its contract: a damaged length goes straight out, and the test is whether the record fits what is left of the file.
use Rattle.std.proofs.Common.{Err, sym, ap, ◌∙◌, arith}
use Rattle.refusals.proofs.Out.{goes-out}
use Rattle.files.proofs.Cases.{length-refused, record-past, record-here}
use Rattle.files.proofs.record_at.Goals as goal

pub returns-in_err-record : goal.returns-in_err-record
returns-in_err-record c = goes-out _ _ c.from_residual.ensures.1 ∙ sym (length-refused _ _ (sym c.in_err-record.ensures.value))

pub returns-then-left-record : goal.returns-then-left-record
returns-then-left-record c = ap Err c.at.ensures ∙ sym (record-past _ _ _ _ (sym c.in_ok-record.ensures.value) (omega (arith, c.if-left-record.true, c.in_ok-record.ensures.within)))

pub returns : goal.returns
returns c = sym (record-here _ _ _ _ (sym c.in_ok-record.ensures.value) (omega (arith, c.if-left-record.false, c.in_ok-record.ensures.within)))

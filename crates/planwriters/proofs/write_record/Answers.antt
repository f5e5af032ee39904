-- `planwriters::write_record` meets its contract: where a rule refuses, nothing was written yet; else everything fits, and the numbers that are written are the
-- record.
use mathlib.Core.Path.{◌≡◌, sym}
use lib.ListN.{length}
use Rattle.std.specs.Prelude.{Ok}
use Rattle.refusals.proofs.Out.{goes-out}
use Rattle.numbers.proofs.Written.{sets-front}
use Rattle.planwriters.specs.Writing.{plan_record_of, before_writing}
use Rattle.planwriters.specs.Inner.Fits.{Fits}
use Rattle.planwriters.proofs.Calls.{passes, call-refused, call-accepted}
use Rattle.planwriters.proofs.write_record.Goals as goal
use Rattle.planwriters.proofs.write_record.Goals.{In_ok-before_writing}

pub returns-in_err-before_writing : goal.returns-in_err-before_writing
returns-in_err-before_writing c =
    let a = c.args in rw (goes-out _ _ c.from_residual.ensures.1) (sym (call-refused a.words.now a.bytes.now a.id _ (sym c.in_err-before_writing.ensures)))

through : (c : In_ok-before_writing) → (let a = c.args in before_writing a.words.now (length a.bytes.now) a.id ≡ Ok tt)
through c = sym c.in_ok-before_writing.ensures

fine : (c : In_ok-before_writing) → (let a = c.args in Fits a.words.now (length a.bytes.now) a.id)
fine c = passes _ _ _ (through c)

pub write_numbers-requires : goal.write_numbers-requires
write_numbers-requires c = fine (goal.at.write_numbers-requires c).In_ok-before_writing

pub returns : goal.returns
returns c =
    let a = c.args in
    let p = (goal.at.returns c).In_ok-before_writing in
    rw (c.write_numbers.ensures.value, c.write_numbers.ensures.bytes_after, sets-front (plan_record_of a.id a.words.now) a.bytes.now (fine p).enough)
    (sym (call-accepted a.words.now a.bytes.now a.id (through p)))

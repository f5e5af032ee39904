-- `files::length_at` meets its contract: its arms are those of what is found for a length.
use Rattle.std.proofs.Common.{Ok, Err, ap, ◌∙◌, arith}
use Rattle.numbers.specs.declared.Fault.TheVariants.{Ended, TooLong, NotShortest}
use Rattle.files.proofs.Cases.{length-found, length-inside}
use Rattle.files.proofs.length_at.Goals as goal

pub overflow_add-result : goal.overflow_add-result
overflow_add-result c = omega (arith, length-inside _ _ _ c.in-Ok.ensures c.requires)

pub returns-in-Ok : goal.returns-in-Ok
returns-in-Ok c = record { value = length-found _ _ (Ok _) c.in-Ok.ensures; within = length-inside _ _ _ c.in-Ok.ensures c.requires }

pub returns-in-Err-Ended-clause-value : goal.returns-in-Err-Ended-clause-value
returns-in-Err-Ended-clause-value c = ap Err c.at.ensures ∙ length-found _ _ (Err Ended) (rw c.in-Err-Ended.field-0-is at c.in-Err-Ended.ensures)

pub returns-in-Err-TooLong-clause-value : goal.returns-in-Err-TooLong-clause-value
returns-in-Err-TooLong-clause-value c = ap Err c.at-in-Err-TooLong.ensures ∙ length-found _ _ (Err TooLong) (rw c.in-Err-TooLong.field-0-is at c.in-Err-TooLong.ensures)

pub returns-in-Err-NotShortest-clause-value : goal.returns-in-Err-NotShortest-clause-value
returns-in-Err-NotShortest-clause-value c = ap Err c.at-in-Err-NotShortest.ensures ∙ length-found _ _ (Err (NotShortest _)) (rw c.in-Err-NotShortest.field-0-is at c.in-Err-NotShortest.ensures)

-- `Reader::take_any_form` meets its contract: what the number reader found in the part from the spot on is told as `taken_of` says.
use mathlib.Core.Path.{sym, ap, ap₂, ◌∙◌}
use Prim.Native.Nat.{◌-◌}
use native.Mathlib.Omega.{arith}
use lib.ListN.{length, take, drop}
use borrow.Author.Rules.{rules}
use Rattle.std.specs.Prelude.{Ok, Err}
use Rattle.plain.specs.At.{at}
use Rattle.refusals.specs.declared.Refusal.{Refusal}
use Rattle.numbers.specs.declared.Fault.TheVariants.{Ended, TooLong, NotShortest}
use Rattle.numbers.specs.Number.{worth, record_more}
use Rattle.numbers.proofs.Cases.{last}
use Rattle.menders.specs.Taken.{read}
use Rattle.menders.proofs.Cases.{any-is}
use Rattle.menders.proofs.Inside.{reach, reach-padded}
use Rattle.menders.proofs.Reader.take_any_form.Goals as goal

pub returns-in-Err-NotShortest-clause-step : goal.returns-in-Err-NotShortest-clause-step
returns-in-Err-NotShortest-clause-step c =
    rw (← (any-is c.args.self.now.bytes.now c.args.self.now.spot (Err (NotShortest c.in-Err-NotShortest.number)) (rw c.in-Err-NotShortest.field-0-is at c.in-Err-NotShortest.ensures))) (search rules)

pub returns-in-Ok-clause-step : goal.returns-in-Ok-clause-step
returns-in-Ok-clause-step c = ap₂ read c.pass-in-Ok.ensures.value c.pass-in-Ok.ensures.spot ∙ any-is _ _ (Ok c.in-Ok.number) c.in-Ok.ensures

pub returns-in-Err-Ended-clause-step : goal.returns-in-Err-Ended-clause-step
returns-in-Err-Ended-clause-step c = ap (λ (r : Refusal). Err r) c.at.ensures ∙ any-is _ _ (Err Ended) (rw c.in-Err-Ended.field-0-is at c.in-Err-Ended.ensures)

pub returns-in-Err-TooLong-clause-step : goal.returns-in-Err-TooLong-clause-step
returns-in-Err-TooLong-clause-step c =
    ap (λ (r : Refusal). Err r) c.at-in-Err-TooLong.ensures ∙ any-is _ _ (Err TooLong) (rw c.in-Err-TooLong.field-0-is at c.in-Err-TooLong.ensures)

pub pass-requires-in-Ok : goal.pass-requires-in-Ok
pass-requires-in-Ok c = let a = c.args.self.now in let i = reach _ _ _ c.in-Ok.ensures a.within in (i, omega (arith, a.within))

pub pass-requires-in-Err-NotShortest : goal.pass-requires-in-Err-NotShortest
pass-requires-in-Err-NotShortest c = reach-padded _ _ _ (rw c.in-Err-NotShortest.field-0-is at c.in-Err-NotShortest.ensures) c.args.self.now.within

pub returns-in-0-to-127-clause-step : goal.returns-in-0-to-127-clause-step
returns-in-0-to-127-clause-step c = let a = c.args.self.now in let part = take (length a.bytes.now - a.spot.at) (drop a.spot.at a.bytes.now) in
    ap₂ read (c.pass.ensures.value ∙ c.from.ensures) c.pass.ensures.spot ∙ any-is a.bytes.now a.spot (Ok (worth (at part 0) 1)) (sym (last record_more part c.in-0-to-127.len_at_least (omega arith)))

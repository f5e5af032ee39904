-- `planchecks::put_judged` meets its contract: a refusal gives its line, and an accepted plan the sheet of the words that the judge filled in, under the task's own line.
use mathlib.Core.Path.{◌≡◌, refl, ap, ◌∙◌}
use mathlib.Core.List.{List}
use Prim.Native.Nat.{ℕ}
use lib.ListN.{replicate}
use native.Mathlib.Omega.{arith}
use borrow.Author.Tests.{ne_eqb}
use Rattle.refusals.specs.declared.Refusal.{Refusal}
use Rattle.refusals.specs.Answer.{accepted, refused}
use Rattle.refusals.specs.After.{After}
use Rattle.plans.specs.Words.{words_max}
use Rattle.plans.specs.Calls.{task_of}
use Rattle.plans.proofs.Table.{plans-accepted}
use Rattle.judges.specs.declared.Judging.{Judging}
use Rattle.judges.specs.Inner.Judged.{Judged}
use Rattle.sheets.specs.declared.lines.Head.{Head}
use Rattle.sheets.specs.Lines.{refused_line}
use Rattle.sheets.specs.Sheet.{sheet_text}
use Rattle.sheets.specs.Printed.{sheet_cost}
use Rattle.sheets.proofs.Printing.{puts-same}
use Rattle.planchecks.specs.Sheet.{judged_pair, pair_text}
use Rattle.judges.proofs.Accepting.{Accepting, accepting}
use Rattle.planchecks.proofs.Printable.{printable}
use Rattle.planchecks.proofs.put_judged.Goals as goal

-- the first line's numbers, as the judge tells them
abbrev head : Judging → Head
head j = record { id = j.id; period = j.period; work = j.work; path = j.path }

-- the text, by what the judge answers and leaves
module _ (bytes plan : List ℕ) {w : List ℕ} where
  module _ (j : Judging) (e : record { answer = accepted j.id; lent = w } ≡ judged_pair bytes plan) where
    accepts : Accepting plan (replicate words_max 0) (task_of bytes sheet_cost) (record { answer = accepted j.id; lent = w })
    accepts = rw e (accepting bytes plan (replicate words_max 0) sheet_cost (rw (← e) refl))

    text-sheet : Judged (task_of bytes sheet_cost) j → sheet_text (head j) w ≡ pair_text bytes plan
    text-sheet told =
        let own = ap (λ (x : After (List ℕ)). x.answer.value) accepts.is ∙ accepts.own in
        rw (← e, own, told.period, told.work, told.path)

  -- no refusal is numbered 0: what has that number is the acceptance of an id, which is above 0
  module _ {r : Refusal} (e : record { answer = refused r; lent = w } ≡ judged_pair bytes plan) where
    some : r.number ≡ 0 → ⊥
    some z =
        let known = accepting bytes plan (replicate words_max 0) sheet_cost (rw (← e) z) in
        let value = ap (λ (x : After (List ℕ)). x.answer.value) (e ∙ known.is) in
        let low = (plans-accepted known.task).range.id-low in
        omega (arith, known.own)

    text-refused : refused_line r ≡ pair_text bytes plan
    text-refused = rw (← e, ne_eqb r.number 0 some)

pub put_sheet-requires-clause-printable : goal.put_sheet-requires-clause-printable
put_sheet-requires-clause-printable c = printable (accepts c.args.bytes.now c.args.plan.now c.in-Ok.judging c.in-Ok.ensures.words_after)

pub returns-in-Ok : goal.returns-in-Ok
returns-in-Ok c = puts-same (text-sheet c.args.bytes.now c.args.plan.now c.in-Ok.judging c.in-Ok.ensures.words_after c.in-Ok.ensures.judged) c.put_sheet.ensures

pub returns-in-Err : goal.returns-in-Err
returns-in-Err c = puts-same (text-refused c.args.bytes.now c.args.plan.now c.in-Err.ensures.words_after) c.put_refusal.ensures

-- Every text of plancheck fits its buffer: it is the line of a refusal, or the sheet of words that the judge accepted, which have at most 64 segments and 64 nodes.
use mathlib.Core.List.{List}
use Prim.Native.Nat.{ℕ, ◌≤◌}
use lib.Dec.{eqb}
use lib.ListN.{length, take, replicate}
use borrow.Author.Tests.{eqb-true}
use Rattle.plain.proofs.Picks.{pick-case}
use Rattle.refusals.specs.Refusal.{refusal_of}
use Rattle.plans.specs.Words.{words_max}
use Rattle.plans.specs.Calls.{task_of}
use Rattle.sheets.specs.Lines.{refused_line}
use Rattle.sheets.specs.Sheet.{sheet_max}
use Rattle.sheets.specs.Printed.{head_of, sheet_cost}
use Rattle.sheets.proofs.Sizes.{sheet-fits, refusal-fits}
use Rattle.planchecks.specs.Sheet.{judged_pair, pair_text, input_max, check_sheet}
use Rattle.judges.proofs.Accepting.{accepting}
use Rattle.planchecks.proofs.Printable.{printable}
use Rattle.planchecks.proofs.Pairs.{pair-all}

-- a text of at most so many bytes
abbrev Fitting : List ℕ → Type 0
Fitting text = length text ≤ sheet_max

pair_fits : (bytes plan : List ℕ) → Fitting (pair_text bytes plan)
pair_fits bytes plan =
    let j = judged_pair bytes plan in
    pick-case Fitting (eqb j.answer.refusal 0)
    (λ e. let p = printable (accepting bytes plan (replicate words_max 0) sheet_cost (eqb-true j.answer.refusal 0 e)) in
    sheet-fits (head_of (task_of bytes sheet_cost)) j.lent p.segments p.nodes)
    (λ _. refusal-fits (refusal_of j.answer))

pub check-fits : (input : List ℕ) → length (check_sheet input) ≤ sheet_max
check-fits input = pair-all refused_line pair_text (take input_max input) Fitting refusal-fits pair_fits

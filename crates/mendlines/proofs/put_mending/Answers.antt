-- `mendlines::put_mending` meets its contract: its test is the line's own, and both lines fit.
use mathlib.Core.Path.{sym, ap, ◌∙◌}
use native.Mathlib.Omega.{arith}
use Rattle.texts.proofs.Sizes.{line-size}
use Rattle.sheets.specs.Lines.{refused_line}
use Rattle.sheets.proofs.Printing.{puts-same}
use Rattle.mendlines.proofs.Lines.{line-counts, line-refusal}
use Rattle.mendlines.proofs.put_mending.Goals as goal

pub returns-then-mending-ne0 : goal.returns-then-mending-ne0
returns-then-mending-ne0 c =
    puts-same (ap refused_line c.told_by.ensures ∙ sym (line-refusal c.args.mending c.if-mending-ne0.true)) c.put_refusal.ensures

pub put_line-requires : goal.put_line-requires
put_line-requires c = record { fits = omega (arith, line-size) }

pub returns : goal.returns
returns c = puts-same (sym (line-counts c.args.mending c.if-mending-ne0.false)) c.put_line.ensures

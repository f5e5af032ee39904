-- `planchecks::put_pair` meets its contract: what an input comes to is what its two records, or its refusal, come to.
use mathlib.Core.Path.{sym, ap, ◌∙◌}
use Rattle.sheets.specs.Lines.{refused_line}
use Rattle.sheets.proofs.Printing.{puts-same}
use Rattle.planchecks.specs.Sheet.{pair_text}
use Rattle.planchecks.proofs.Pairs.{on_two, pair-two}
use Rattle.planchecks.proofs.put_pair.Goals as goal

pub returns-in-Ok : goal.returns-in-Ok
returns-in-Ok c =
    puts-same (ap (on_two refused_line pair_text c.args.input.now) c.in-Ok.ensures ∙ sym (pair-two refused_line pair_text c.args.input.now)) c.put_judged.ensures

pub returns-in-Err : goal.returns-in-Err
returns-in-Err c =
    puts-same (ap (on_two refused_line pair_text c.args.input.now) c.in-Err.ensures ∙ sym (pair-two refused_line pair_text c.args.input.now)) c.put_refusal.ensures

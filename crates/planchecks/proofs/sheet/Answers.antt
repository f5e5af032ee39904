-- `planchecks::sheet` meets its contract: the shorter of the input and the limit is what the limit takes of the input, and its text is printed.
use Rattle.std.proofs.Common.{rules}
use lib.ListN.{take}
use Rattle.std.proofs.lemmas.List.{take_min}
use Rattle.sheets.specs.Lines.{refused_line}
use Rattle.planchecks.specs.Pair.{on_pair}
use Rattle.planchecks.specs.Sheet.{pair_text}
use Rattle.planchecks.proofs.sheet.Goals as goal

pub returns-clause-out_after : goal.returns-clause-out_after
returns-clause-out_after c =
    rw (c.min.ensures, take_min) at (c.print.ensures (on_pair refused_line pair_text (take c.min.result c.args.input.now)) (λ old new e. search rules)).0

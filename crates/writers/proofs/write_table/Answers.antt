-- `writers::write_table` meets its contract: the table's arrays have 64 entries, so that the first n of each are lists of one length.
use mathlib.Core.Path.{◌≡◌, sym, ◌∙◌}
use native.Mathlib.Omega.{arith}
use lib.ListN.{length}
use lib.Seq.{length-take-le}
use borrow.Author.Rules.{rules}
use Rattle.tables.specs.Limits.{count_max}
use Rattle.writers.proofs.Calls.{call-writing}
use Rattle.writers.proofs.write_table.Goals as goal

pub returns-clause-bytes_after : goal.returns-clause-bytes_after
returns-clause-bytes_after c = let t = c.args.table in
    let e : length t.execution ≡ count_max = search rules in
    let p : length t.parents ≡ count_max = search rules in
    c.write.ensures.bytes_after ∙ sym (call-writing _ _ _ _ _ _ (length-take-le t.count t.execution (omega arith) ∙ sym (length-take-le t.count t.parents (omega arith))))

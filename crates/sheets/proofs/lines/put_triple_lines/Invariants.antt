use Rattle.texts.specs.Inner.Page.{Puts}
use Rattle.sheets.specs.Lines.{triples_to}
use Rattle.sheets.proofs.lines.put_triple_lines.Given as goal

abbrev pub invariant-loop-k : goal.invariant-loop-k
invariant-loop-k l = Puts l.initial.page (triples_to l.k l.part l.triples) l.page

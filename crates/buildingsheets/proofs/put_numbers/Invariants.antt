use Rattle.plain.specs.At.{at}
use Rattle.texts.specs.Inner.Page.{Puts}
use Rattle.sheets.specs.Lines.{lines_to}
use Rattle.buildingsheets.specs.Sheet.{number_line}
use Rattle.buildingsheets.proofs.put_numbers.Given as goal

abbrev pub invariant-loop-k : goal.invariant-loop-k
invariant-loop-k l = Puts l.initial.page (lines_to l.k (λ j. number_line j (at l.refused j))) l.page

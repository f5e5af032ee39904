-- `buildingsheets::sheet` meets its contract: what is printed is the building's text, whose end lies in the buffer.
use Rattle.std.proofs.Common.{rules}
use Rattle.buildingsheets.specs.Sheet.{building_sheet}
use Rattle.buildingsheets.proofs.sheet.Goals as goal

pub returns-clause-upper_bound : goal.returns-clause-upper_bound
returns-clause-upper_bound c = (c.print.ensures (building_sheet c.args.file.now) (λ old new e. search rules)).1

-- `buildingsheets::building_in` meets its contract: the shorter of the file and the limit is what the limit takes of the file.
use Rattle.std.proofs.lemmas.List.{take_min}
use Rattle.buildingsheets.proofs.building_in.Goals as goal

pub returns : goal.returns
returns c = rw (c.min.ensures, take_min) at c.count_building.ensures

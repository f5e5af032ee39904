-- `buildingsheets::put_building` meets its contract: the text fits, and its five parts follow one another.
use native.Mathlib.Omega.{arith}
use Rattle.texts.specs.Inner.Page.{HasRoom}
use Rattle.texts.proofs.Writes.{◌then◌, first-room, next-room}
use Rattle.buildingsheets.specs.Sheet.{building_text}
use Rattle.buildingsheets.proofs.Lines.{building-fits}
use Rattle.buildingsheets.proofs.put_building.Goals as goal
use Rattle.buildingsheets.proofs.put_building.Goals.{Start}

-- room for the whole
room : (c : Start) → HasRoom c.args.page.now (building_text c.args.building)
room c = record { fits = omega (arith, building-fits c.args.building) }

pub put_counts-requires : goal.put_counts-requires
unfolding building_text
put_counts-requires c = first-room _ (first-room _ (first-room _ (first-room _ (room (goal.at.put_counts-requires c).Start))))

pub put_numbers-requires : goal.put_numbers-requires
unfolding building_text
put_numbers-requires c =
    next-room c.put_counts.ensures (first-room _ (first-room _ (first-room _ (room (goal.at.put_numbers-requires c).Start))))

pub put_counts-requires-2 : goal.put_counts-requires-2
unfolding building_text
put_counts-requires-2 c =
    next-room (c.put_counts.ensures then c.put_numbers.ensures) (first-room _ (first-room _ (room (goal.at.put_counts-requires-2 c).Start)))

pub put_counts-requires-3 : goal.put_counts-requires-3
unfolding building_text
put_counts-requires-3 c =
    next-room (c.put_counts.ensures then c.put_numbers.ensures then c.put_counts-2.ensures) (first-room _ (room (goal.at.put_counts-requires-3 c).Start))

pub put_unless_zero-requires : goal.put_unless_zero-requires
unfolding building_text
put_unless_zero-requires c =
    next-room (c.put_counts.ensures then c.put_numbers.ensures then c.put_counts-2.ensures then c.put_counts-3.ensures) (room (goal.at.put_unless_zero-requires c).Start)

pub returns : goal.returns
unfolding building_text
returns c =
    c.put_counts.ensures then c.put_numbers.ensures then c.put_counts-2.ensures then c.put_counts-3.ensures then c.put_unless_zero.ensures

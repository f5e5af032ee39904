use Rattle.overheads.specs.ToEnd.{verdict_to_end}
use Rattle.overheads.proofs.asked_to_end.Given as goal

abbrev pub ghost-asked_by : goal.ghost-asked_by
ghost-asked_by a = verdict_to_end

use Rattle.boards.specs.Verdict.{verdict}
use Rattle.boards.proofs.asking.asked.Given as goal

abbrev pub ghost-asked_by : goal.ghost-asked_by
ghost-asked_by a = verdict

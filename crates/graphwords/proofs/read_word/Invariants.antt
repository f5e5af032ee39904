use Rattle.graphwords.proofs.Along.{Along}
use Rattle.graphwords.proofs.read_word.Given as goal

abbrev pub invariant-loop-passed : goal.invariant-loop-passed
invariant-loop-passed l = Along l.text l.place l.passed l.value

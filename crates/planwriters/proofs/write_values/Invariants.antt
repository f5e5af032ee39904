use lib.ListN.{take}
use Rattle.numbers.specs.Number.{plan_more}
use Rattle.numbers.proofs.Written.{Wrote}
use Rattle.planwriters.proofs.write_values.Given as goal

abbrev pub invariant-loop-value : goal.invariant-loop-value
invariant-loop-value l = Wrote plan_more l.initial.bytes l.from (take l.value-index l.values) l.bytes l.at

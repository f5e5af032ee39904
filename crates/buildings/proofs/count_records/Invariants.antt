use Prim.Native.Nat.{◌-◌}
use lib.ListN.{length}
use Rattle.buildings.proofs.Walked.{Counted}
use Rattle.buildings.proofs.count_records.Given as goal

abbrev pub invariant-loop-at : goal.invariant-loop-at
invariant-loop-at l = Counted l.file l.cost l.words l.counts l.at

abbrev pub decreases-loop-at : goal.decreases-loop-at
decreases-loop-at l = length l.file - l.at

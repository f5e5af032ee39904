-- `graphs::Words::take_number` meets its contract: its arms are those of `found_taken`, and a number that was found ends inside the text.
use Rattle.graphs.proofs.Steps.{found_inside}
use Rattle.graphs.proofs.Words.take_number.Goals as goal

pub invariant_of-self : goal.invariant_of-self
invariant_of-self c = record { inside = found_inside _ _ _ c.in-Ok.ensures }

-- `menders::mend` meets its contract: it tells what `write_mended` returns, and no record is longer than the bytes that it is written into.
use Rattle.menders.proofs.Calls.{call-inside}
use Rattle.menders.proofs.mend.Goals as goal

pub returns-in-Ok-clause-value_in_bounds : goal.returns-in-Ok-clause-value_in_bounds
returns-in-Ok-clause-value_in_bounds c = rw c.accepted.ensures (call-inside _ _ _ c.in-Ok.ensures)

-- `sweeps::nobody` meets its contract: it is the record itself, with the set of all nodes.
use Rattle.sweeps.proofs.nobody.Goals as goal

pub returns : goal.returns
returns c = rw c.all_below.ensures

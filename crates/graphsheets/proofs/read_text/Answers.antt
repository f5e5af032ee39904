-- `graphsheets::read_text` meets its contract: the shorter of the text and the limit is what the limit takes of the text.
use Rattle.std.proofs.lemmas.List.{take_min}
use Rattle.graphsheets.proofs.read_text.Goals as goal

pub returns : goal.returns
returns c = rw (c.min.ensures, take_min) at c.read_graph.ensures

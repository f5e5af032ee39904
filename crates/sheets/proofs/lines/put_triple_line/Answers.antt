-- `sheets::lines::put_triple_line` meets its contract: each part has its own words, and the line is the part's.
use Rattle.sheets.proofs.lines.put_triple_line.Goals as goal

pub put_line-requires : goal.put_line-requires
put_line-requires c = rw c.in-Segments.is at c.requires

pub returns-in-Segments : goal.returns-in-Segments
returns-in-Segments c = rw c.in-Segments.is c.put_line.ensures

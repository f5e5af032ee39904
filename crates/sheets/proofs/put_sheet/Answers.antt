-- `sheets::put_sheet` meets its contract: the sheet fits, and its four parts follow one another.
use mathlib.Core.List.{◌++◌}
use Prim.Native.Nat.{◌+◌, ◌*◌}
use native.Mathlib.Omega.{arith}
use Rattle.plain.specs.At.{at}
use Rattle.plain.proofs.Lists.{part-from}
use Rattle.texts.specs.Inner.Page.{HasRoom, Puts}
use Rattle.texts.proofs.Writes.{◌then◌, first-room, next-room}
use Rattle.sheets.specs.declared.lines.Part.TheVariants.{Segments, Nodes}
use Rattle.sheets.specs.Lines.{task_line, triples_to}
use Rattle.sheets.specs.Sheet.{sheet_text, segment_triples, node_triples}
use Rattle.sheets.proofs.Sizes.{sheet-fits}
use Rattle.sheets.proofs.put_sheet.Goals as goal
use Rattle.sheets.proofs.put_sheet.Goals.{Start, After-put_triple_lines, After-put_triple_lines-2}

-- room for the whole
room : (c : Start) → HasRoom c.args.page.now (sheet_text c.args.head c.args.words.now)
room c = record { fits = omega (arith, sheet-fits c.args.head c.args.words.now c.requires.printable.segments c.requires.printable.nodes) }

-- the task's line and the segments' stand; and the nodes' with them
segments : (c : After-put_triple_lines) → (let w = c.args.words.now in Puts c.args.page.now (task_line c.args.head (at w 0) ++ triples_to (at w 1) Segments (segment_triples w)) c.put_triple_lines.new.page)
segments c = c.put_task_line.ensures then (rw (part-from 3 c.args.words.now) at c.put_triple_lines.ensures)

nodes : (c : After-put_triple_lines-2) → (let w = c.args.words.now in Puts c.args.page.now (task_line c.args.head (at w 0) ++ triples_to (at w 1) Segments (segment_triples w) ++ triples_to (at w 2) Nodes (node_triples w)) c.put_triple_lines-2.new.page)
nodes c = segments (goal.at-After-put_triple_lines-2 c).After-put_triple_lines then (rw (part-from (3 + 3 * at c.args.words.now 1) c.args.words.now) at c.put_triple_lines-2.ensures)

pub put_task_line-requires : goal.put_task_line-requires
unfolding sheet_text
put_task_line-requires c = first-room _ (first-room _ (first-room _ (room (goal.at.put_task_line-requires c).Start)))

pub put_triple_lines-requires-clause-room : goal.put_triple_lines-requires-clause-room
unfolding sheet_text
put_triple_lines-requires-clause-room c =
    rw (part-from 3 c.args.words.now) (next-room c.put_task_line.ensures (first-room _ (first-room _ (room (goal.at.put_triple_lines-requires-clause-room c).Start))))

pub put_triple_lines-requires-2-clause-room : goal.put_triple_lines-requires-2-clause-room
unfolding sheet_text
put_triple_lines-requires-2-clause-room c =
    let at-goal = goal.at.put_triple_lines-requires-2-clause-room c in
    rw (part-from (3 + 3 * at c.args.words.now 1) c.args.words.now) (next-room (segments at-goal.After-put_triple_lines) (first-room _ (room at-goal.Start)))

pub put_line-requires : goal.put_line-requires
unfolding sheet_text
put_line-requires c =
    rw (c.figures_of-figures.ensures, part-from (3 + 3 * at c.args.words.now 1) c.args.words.now) (next-room (nodes (goal.at.put_line-requires c).After-put_triple_lines-2) (room (goal.at.put_line-requires c).Start))

pub returns : goal.returns
unfolding sheet_text
returns c =
    let total = rw (c.figures_of-figures.ensures, part-from (3 + 3 * at c.args.words.now 1) c.args.words.now) at c.put_line.ensures in
    nodes (goal.at.returns c).After-put_triple_lines-2 then total

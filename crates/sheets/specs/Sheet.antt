-- The sheet of a plan, whose words are Q, the segment count s, the node count n, s triples of segments and n triples of nodes.
use Rattle.std.specs.Prelude.{List, ◌++◌, ℕ, ◌+◌, ◌*◌, drop}
use Rattle.plain.specs.At.{at}
use Rattle.shares.specs.Figures.{figures}
use Rattle.sheets.specs.declared.lines.Head.{Head}
use Rattle.sheets.specs.declared.lines.Part.TheVariants.{Segments, Nodes}
use Rattle.sheets.specs.Lines.{task_line, triples_to, total_line}

-- "then s times (threads, length, deadline numerator)"
abbrev pub segment_triples : List ℕ → List ℕ
segment_triples w = drop 3 w

-- "the part after the last segment": n times (offset numerator, deadline numerator, density in millionths)
abbrev pub node_triples : List ℕ → List ℕ
node_triples w = drop (3 + 3 * at w 1) w

-- the density of node v
abbrev pub density_at : (w : List ℕ) (v : ℕ) → ℕ
density_at w v = at (node_triples w) (3 * v + 2)

-- the lines of the task, of its segments, of its nodes, and of its figures
unfoldable pub sheet_text : Head → (w : List ℕ) → List ℕ
sheet_text head w =
    task_line head (at w 0)
    ++ triples_to (at w 1) Segments (segment_triples w)
    ++ triples_to (at w 2) Nodes (node_triples w)
    ++ total_line (figures (at w 2) (density_at w))

-- so many bytes hold every sheet
abbrev pub sheet_max : ℕ
sheet_max = 16_384

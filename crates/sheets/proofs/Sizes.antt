-- A sheet's size: each line has a bound that its words alone tell, and 64 segments and 64 nodes come to less than sheet_max.
use mathlib.Core.Path.{◌≡◌}
use mathlib.Core.List.{List, ◌++◌}
use Prim.Native.Nat.{ℕ, ◌+◌, ◌*◌, ◌≤◌}
use native.Mathlib.Nat.{le_trans}
use native.Mathlib.Omega.{arith}
use lib.ListN.{length, length-append}
use Rattle.plain.specs.At.{at}
use Rattle.plain.proofs.Sums.{sum_to-le}
use Rattle.tables.specs.Limits.{count_max}
use Rattle.refusals.specs.declared.Refusal.{Refusal}
use Rattle.shares.specs.declared.Figures.{Figures}
use Rattle.shares.specs.Figures.{figures}
use Rattle.texts.specs.declared.Triple.{Triple}
use Rattle.texts.proofs.Sizes.{line-size}
use Rattle.sheets.specs.declared.lines.Head.{Head}
use Rattle.sheets.specs.declared.lines.Part.{Part}
use Rattle.sheets.specs.declared.lines.Part.TheVariants.{Segments, Nodes}
use Rattle.sheets.specs.Lines.{task_line, triple_line, triples_to, total_line, refused_line}
use Rattle.sheets.specs.Sheet.{segment_triples, node_triples, density_at, sheet_text, sheet_max}
use Rattle.sheets.proofs.Sheets.{length-lines_to}

-- the five lines
task-size : (head : Head) (over : ℕ) → length (task_line head over) ≤ 132
task-size head over = line-size _

triple-size : (part : Part) (k : ℕ) (t : Triple) → length (triple_line part k t) ≤ 113
triple-size Segments k t = le_trans (line-size _) (omega arith)
triple-size Nodes k t = line-size _

total_size : (f : Figures) → length (total_line f) ≤ 50
total_size f = line-size _

refused-size : (r : Refusal) → length (refused_line r) ≤ 53
refused-size r = line-size _

triples-size : (n : ℕ) (part : Part) (triples : List ℕ) → length (triples_to n part triples) ≤ n * 113
triples-size n part triples = rw length-lines_to (sum_to-le n 113 _ (λ k _. triple-size part k _))

-- a sheet's four parts
four-parts : (a b c d : List ℕ) → length (a ++ b ++ c ++ d) ≡ length a + length b + length c + length d
four-parts a b c d = simp length-append

-- every sheet of at most 64 segments and 64 nodes, and every refusal, fits
pub sheet-fits : (head : Head) (w : List ℕ) → at w 1 ≤ count_max → at w 2 ≤ count_max → length (sheet_text head w) ≤ sheet_max
unfolding sheet_text
sheet-fits head w few-segments few-nodes =
    rw four-parts (omega (
      arith,
      task-size head (at w 0),
      triples-size (at w 1) Segments (segment_triples w),
      triples-size (at w 2) Nodes (node_triples w),
      total_size (figures (at w 2) (density_at w)),
    ))

pub refusal-fits : (r : Refusal) → length (refused_line r) ≤ sheet_max
refusal-fits r = omega (arith, refused-size r)

-- The line by its answer, and its size: its words alone tell a bound.
use mathlib.Core.Path.{◌≡◌}
use mathlib.Core.Bool.{Bool, true, false}
use Prim.Native.Nat.{◌≤◌}
use native.Mathlib.Omega.{arith}
use lib.Dec.{eqb}
use lib.ListN.{length}
use borrow.Author.Tests.{eq-eqb, ne_eqb}
use Rattle.plain.specs.Pick.{pick}
use Rattle.refusals.specs.Refusal.{refusal_of}
use Rattle.texts.proofs.Sizes.{line-size}
use Rattle.sheets.specs.Lines.{refused_line}
use Rattle.sheets.specs.Sheet.{sheet_max}
use Rattle.sheets.proofs.Sizes.{refusal-fits}
use Rattle.menders.specs.declared.Counts.{Counts}
use Rattle.menders.specs.declared.Mending.{Mending}
use Rattle.mendlines.specs.Line.{counts_line, mend_line}

pub line-counts : (m : Mending) → m.answer.refusal ≡ 0 → mend_line m ≡ counts_line m.counts
line-counts m e = rw (eq-eqb _ _ e)

pub line-refusal : (m : Mending) → (m.answer.refusal ≡ 0 → ⊥) → mend_line m ≡ refused_line (refusal_of m.answer)
line-refusal m n = rw (ne_eqb _ _ n)

counts-size : (counts : Counts) → length (counts_line counts) ≤ 88
counts-size counts = line-size _

pub counts-fit : (counts : Counts) → length (counts_line counts) ≤ sheet_max
counts-fit counts = omega (arith, counts-size counts)

pub line-fits : (m : Mending) → length (mend_line m) ≤ sheet_max
line-fits m = by (eqb m.answer.refusal 0)
  where
    by : (b : Bool) → length (pick b (counts_line m.counts) (refused_line (refusal_of m.answer))) ≤ sheet_max
    by true = counts-fit m.counts
    by false = refusal-fits (refusal_of m.answer)

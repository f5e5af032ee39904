-- What mend prints on standard error: one line.
use Rattle.std.specs.Prelude.{List, [], ◌∷◌, ℕ, eqb}
use Rattle.plain.specs.Pick.{pick}
use Rattle.refusals.specs.Refusal.{refusal_of}
use Rattle.texts.specs.Text.{bytes}
use Rattle.texts.specs.Lines.{line}
use Rattle.sheets.specs.Lines.{refused_line}
use Rattle.menders.specs.declared.Counts.{Counts}
use Rattle.menders.specs.declared.Mending.{Mending}

-- "padded 3 reordered 1 dropped 2"
abbrev pub counts_line : Counts → List ℕ
counts_line counts = line ((bytes "padded ", counts.padded) ∷ (bytes "reordered ", counts.reordered) ∷ (bytes "dropped ", counts.dropped) ∷ [])

-- this, or the line of the refusal
abbrev pub mend_line : Mending → List ℕ
mend_line m = pick (eqb m.answer.refusal 0) (counts_line m.counts) (refused_line (refusal_of m.answer))

use Rattle.texts.specs.Lines.{line}
use Rattle.texts.specs.Inner.Page.{words_of}
use Rattle.texts.proofs.Lines.{Left}
use Rattle.texts.proofs.Page.put_line.Given as goal

abbrev pub invariant-loop-i : goal.invariant-loop-i
invariant-loop-i l = Left line (words_of l.fields) l.initial.self l.self l.i

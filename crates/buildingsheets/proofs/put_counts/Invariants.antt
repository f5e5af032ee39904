use Rattle.texts.specs.Inner.Page.{words_of}
use Rattle.texts.proofs.Lines.{Left}
use Rattle.buildingsheets.specs.Sheet.{count_lines}
use Rattle.buildingsheets.proofs.put_counts.Given as goal

abbrev pub invariant-loop-word : goal.invariant-loop-word
invariant-loop-word l = Left count_lines (words_of l.counts) l.initial.page l.page l.word-index

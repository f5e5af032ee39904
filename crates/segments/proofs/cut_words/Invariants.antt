use mathlib.Core.Path.{◌≡◌}
use Rattle.plain.specs.At.{at}
use Rattle.segments.specs.Inner.Ended.{ended, length_by}
use Rattle.segments.specs.Inner.Listed.{threads_of, enders_of}
use Rattle.segments.specs.Inner.Words.{CutWords}
use Rattle.segments.proofs.cut_words.Given as goal

abbrev pub invariant-loop-j : goal.invariant-loop-j
invariant-loop-j l =
    (l.t ≡ ended (enders_of l.segments) l.finishes l.j) × CutWords (at (threads_of l.segments)) (length_by (enders_of l.segments) l.finishes) l.j l.initial.words l.words

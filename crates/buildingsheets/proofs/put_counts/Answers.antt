-- `buildingsheets::put_counts` meets its contract: each count's line is written where the one before ends, and what is left of the lines begins with it.
use mathlib.Core.Path.{◌≡◌, refl}
use mathlib.Core.List.{[], ◌∷◌, ◌++◌}
use Prim.Native.Nat.{◌+◌}
use lib.ListN.{drop, get_or}
use Rattle.std.proofs.lemmas.List.{length-map}
use Rattle.texts.specs.Lines.{line}
use Rattle.texts.specs.Inner.Page.{words_of}
use Rattle.texts.proofs.Lines.{left_none, left-room, left-more, left-all, no_field, words-at}
use Rattle.buildingsheets.specs.Sheet.{count_lines}
use Rattle.buildingsheets.proofs.put_counts.Goals as goal
use Rattle.buildingsheets.proofs.put_counts.Goals.{In-loop-word}

pub loop-word-init : goal.loop-word-init
loop-word-init c = left_none c.requires

-- the next count's line
next : (c : In-loop-word) → (let i = c.loop-word.word-index in let field = get_or c.args.counts.now i no_field in count_lines (drop i (words_of c.args.counts.now)) ≡ line ((field.0.now, field.1) ∷ []) ++ count_lines (drop (i + 1) (words_of c.args.counts.now)))
unfolding count_lines
next c = rw (words-at c.args.counts.now c.loop-word.word-index c.loop-word-test.true) refl

pub put_line-requires : goal.put_line-requires
put_line-requires c = left-room c.loop-word.invariant (next (goal.at.put_line-requires c).In-loop-word)

pub loop-word-preserved : goal.loop-word-preserved
loop-word-preserved c = left-more c.loop-word.invariant (next (goal.at.loop-word-preserved c).In-loop-word) c.put_line.ensures

pub returns : goal.returns
unfolding count_lines
returns c = left-all c.loop-word.invariant refl (rw length-map c.loop-word-test.false)

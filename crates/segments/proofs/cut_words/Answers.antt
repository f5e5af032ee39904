-- `segments::cut_words` meets its contract: at turn j the walk stands at cut j, and the words hold the segments before it.
use mathlib.Core.Path.{◌≡◌, refl}
use Prim.Native.Nat.{◌-◌}
use native.Mathlib.Numerals.{add-one}
use native.Mathlib.Omega.{arith}
use lib.ListN.{length}
use Rattle.plain.specs.At.{at}
use Rattle.segments.specs.Inner.Listed.{enders_of}
use Rattle.segments.proofs.Listed.{at-threads, at-ender}
use Rattle.segments.proofs.Words.{words-none, words_more}
use Rattle.segments.proofs.cut_words.Goals as goal

pub loop-j-init : goal.loop-j-init
loop-j-init c = (refl, words-none)

pub bounds-finishes-segment : goal.bounds-finishes-segment
bounds-finishes-segment c = omega (arith, at-ender c.args.segments.now c.loop-j.j, c.requires.node c.loop-j.j c.loop-j-test.true)

-- the segment's ender finishes where it begins, or later
pub overflow_sub-words : goal.overflow_sub-words
overflow_sub-words c =
    let e = at-ender c.args.segments.now c.loop-j.j in
    let u = c.requires.up c.loop-j.j c.loop-j-test.true in
    rw (← e) (omega arith)

pub loop-j-preserved : goal.loop-j-preserved
loop-j-preserved c =
    let l = c.loop-j in
    let e = at-ender c.args.segments.now l.j in
    let m = at-threads c.args.segments.now l.j in
    let b = at c.args.finishes.now (at (enders_of c.args.segments.now) l.j) - l.t in
    rw (← e, ← m) (rw add-one, words_more _ b (omega arith) refl (omega arith) l.invariant.1)

pub returns : goal.returns
returns c = let e : c.loop-j.j ≡ length c.args.segments.now = omega arith in rw (← e) c.loop-j.invariant.1

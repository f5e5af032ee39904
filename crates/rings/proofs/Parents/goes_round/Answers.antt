-- `rings::Parents::goes_round` meets its contract: at every turn what was met is reached, and each node that was taken up has its parents among what was met.
use mathlib.Core.Path.{◌≡◌, sym, ◌∙◌}
use Prim.Native.Nat.{◌-◌, ◌^◌}
use lib.Bits.{bit_and, bit_or}
use lib.Count.{count_trailing_zeros}
use Rattle.sets.proofs.Bits.{with-or, has_in, has-out, not-mem}
use Rattle.sets.specs.Inner.Walk.{Walk}
use Rattle.sets.proofs.Walks.{walk}
use Rattle.ways.proofs.Closure.{round-true, round-false}
use Rattle.rings.proofs.Inside.{inside-tidy}
use Rattle.rings.proofs.Taking.{Next, taking-none, taking-more, taking-less, taking-yes, taking-no}
use Rattle.rings.proofs.Parents.goes_round.Goals as goal
use Rattle.rings.proofs.Parents.goes_round.Goals.{After-with_member-taken, Else-is_member}

pub loop-left-init : goal.loop-left-init
loop-left-init c = taking-none c.args.self.tidy c.ranges.set.fits

-- r is left
pub returns-then-is_member : goal.returns-then-is_member
returns-then-is_member c =
    let a = c.args in
    sym (round-true (inside-tidy a.self.sets.now a.self.n a.set) (taking-yes c.loop-left.invariant (has_in a.r c.loop-left.left (sym c.is_member.ensures ∙ c.if-is_member.true))))

-- or is not, and the lowest that is left is taken up
low : (c : Else-is_member) → let l = c.loop-left.left in Walk l (count_trailing_zeros 64 l) (bit_and l (l - 1))
low c = walk c.loop-left.left c.loop-left-test.true c.loop-left.invariant.left_word

next : (c : Else-is_member) → let a = c.args in let l = c.loop-left in Next a.self.sets.now a.self.n a.set a.r l.met l.taken l.left (count_trailing_zeros 64 l.left)
next c =
    let out = has-out c.args.r c.loop-left.left (sym c.is_member.ensures ∙ c.if-is_member.false) in
    record {
      tidy = c.args.self.tidy;
      word = c.ranges.set.fits;
      taking = c.loop-left.invariant;
      low = (low c).lt;
      here = (low c).mem;
      other = λ e. not-mem out (rw e at (low c).mem);
    }

-- the set of those taken up, as a word
put : (c : After-with_member-taken) → let l = c.loop-left in c.with_member-taken.result ≡ bit_or l.taken (2 ^ count_trailing_zeros 64 l.left)
put c = let l = c.loop-left in c.with_member-taken.ensures ∙ with-or (count_trailing_zeros 64 l.left) l.taken

pub loop-left-preserved : goal.loop-left-preserved
loop-left-preserved c = rw (put (goal.at.loop-left-preserved c).After-with_member-taken) (taking-more (next (goal.at.loop-left-preserved c).Else-is_member))

-- nothing is left
pub returns : goal.returns
returns c =
    let a = c.args in
    sym (round-false (inside-tidy a.self.sets.now a.self.n a.set) (taking-no c.loop-left.invariant c.loop-left-test.false))

pub loop-left-smaller : goal.loop-left-smaller
loop-left-smaller c = rw (put (goal.at.loop-left-smaller c).After-with_member-taken) (taking-less (next (goal.at.loop-left-smaller c).Else-is_member))

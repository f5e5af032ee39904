-- `sets::last_of` meets its contract: at every turn the number before those that are left is a member, and in the end none is left.
use Prim.Native.Nat.{◌+◌, ◌-◌, ◌^◌, ◌<◌}
use native.Mathlib.Omega.{arith}
use lib.Bits.{bit_and, bit_or, or_lt, and_le_l}
use lib.Count.{count_trailing_zeros}
use Rattle.sets.proofs.Runs.{Walked, run_none, run-top, run_step, run_on, run-some, run_end}
use Rattle.sets.proofs.last_of.Goals as goal
use Rattle.sets.proofs.last_of.Goals.{Else-filled}

pub loop-left-init : goal.loop-left-init
loop-left-init c = (c.ranges.s.fits, run_none c.args.s)

-- the run reaches the top
pub returns-then-filled : goal.returns-then-filled
returns-then-filled c = run-top c.loop-left.invariant.1 c.loop-left.invariant.0 c.loop-left-test.true c.if-filled.true c.ranges.s.fits

-- 1 more than the filled word fits a word
fits : (c : Else-filled) → let l = c.loop-left.left in bit_or l (l - 1) + 1 < 2 ^ 64
fits c =
    let t = c.loop-left in
    let a = or_lt 64 t.left (t.left - 1) t.invariant.0 (let b = t.invariant.0 in omega arith) in
    omega (arith, c.if-filled.false)

-- or the walk goes on past it
step : (c : Else-filled)
    → let l = c.loop-left.left in
    let sum = bit_or l (l - 1) + 1 in
    Walked c.args.s (bit_and l sum) (count_trailing_zeros 64 sum)
step c = let t = c.loop-left in run_step t.invariant.1 t.invariant.0 c.loop-left-test.true (fits c)

pub loop-left-preserved : goal.loop-left-preserved
loop-left-preserved c = let t = c.loop-left in (omega (arith, and_le_l t.left (bit_or t.left (t.left - 1) + 1), t.invariant.0), step (goal.at.loop-left-preserved c).Else-filled)

pub returns : goal.returns
returns c = run_end c.loop-left.invariant.1 c.loop-left.invariant.0 c.requires c.loop-left-test.false

pub overflow_add-past : goal.overflow_add-past
overflow_add-past c = omega (arith, fits (goal.at.overflow_add-past c).Else-filled)

pub overflow_cast-past : goal.overflow_cast-past
overflow_cast-past c = omega (arith, (step (goal.at.overflow_cast-past c).Else-filled).within)

pub overflow_add-left : goal.overflow_add-left
overflow_add-left c = omega (arith, fits (goal.at.overflow_add-left c).Else-filled)

pub loop-left-smaller : goal.loop-left-smaller
loop-left-smaller c = let t = c.loop-left in omega (arith, run_on t.invariant.1 t.invariant.0 c.loop-left-test.true (fits (goal.at.loop-left-smaller c).Else-filled), (step (goal.at.loop-left-smaller c).Else-filled).within)

pub overflow_sub-result : goal.overflow_sub-result
overflow_sub-result c = run-some c.loop-left.invariant.1 c.loop-left.invariant.0 c.requires c.loop-left-test.false

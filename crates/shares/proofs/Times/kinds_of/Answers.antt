-- `shares::Times::kinds_of` meets its contract: after j turns the kinds are those of the first j segments.
use mathlib.Core.Path.{sym, ◌∙◌}
use mathlib.Core.List.{List}
use Prim.Native.Nat.{ℕ, ◌+◌, ◌*◌, ◌≤◌, ◌<◌}
use native.Mathlib.Omega.{arith}
use Rattle.shares.specs.Words.{threads_at, length_at}
use Rattle.shares.specs.Inner.Kinds.{kinds}
use Rattle.shares.specs.Inner.Asked.{DealIn}
use Rattle.shares.proofs.Heavies.{kinds-none, kinds-heavy, kinds-light, heavies-le, heavy-under, light-under}
use Rattle.shares.proofs.Times.kinds_of.Goals as goal
use Rattle.shares.proofs.Times.kinds_of.Goals.{then-is_heavy, else-is_heavy}

-- what a turn adds stays within the work and within the path
room : {w : List ℕ} {s T C P : ℕ} (j : ℕ) → DealIn w s T C P → j < s → let k = kinds T C P j (threads_at w) (length_at w) in (k.heavies ≤ j) × (k.work + threads_at w j * length_at w j ≤ C) × (k.length + length_at w j ≤ P)
room {w} {s} {T} {C} {P} j given l =
    let m = threads_at w in
    let e = length_at w in
    (heavies-le T C P j m e, omega (arith, given.segmented.work, heavy-under T C P s m e j l), omega (arith, given.segmented.path, light-under T C P s m e j l))

pub loop-j-init : goal.loop-j-init
loop-j-init c = kinds-none _ _ _ _ _

pub overflow_add-kinds : goal.overflow_add-kinds
overflow_add-kinds c = rw c.loop-j.invariant (omega (arith, room _ c.requires c.loop-j-test.true))

pub overflow_mul-kinds : goal.overflow_mul-kinds
overflow_mul-kinds c = omega (arith, room _ c.requires c.loop-j-test.true)

pub overflow_add-kinds-then-is_heavy : goal.overflow_add-kinds-then-is_heavy
overflow_add-kinds-then-is_heavy c = rw c.loop-j.invariant (omega (arith, room _ c.requires c.loop-j-test.true))

pub overflow_add-kinds-else-is_heavy : goal.overflow_add-kinds-else-is_heavy
overflow_add-kinds-else-is_heavy c = rw c.loop-j.invariant (omega (arith, room _ c.requires c.loop-j-test.true))

pub loop-j-preserved : goal.loop-j-preserved
loop-j-preserved c =
    let i = c.loop-j.invariant in
    elim c.if-is_heavy.branch [
      | then-is_heavy w ↦ rw w.kinds-is (kinds-heavy _ _ _ _ _ _ (sym c.is_heavy.ensures ∙ w.if-is_heavy.true) i)
      | else-is_heavy w ↦ rw w.kinds-is (kinds-light _ _ _ _ _ _ (sym c.is_heavy.ensures ∙ w.if-is_heavy.false) i)
    ]

-- `sweeps::move_on` meets its contract: one segment is written, or nothing.
use mathlib.Core.Path.{refl}
use mathlib.Core.Logic.{inl, inr}
use native.Mathlib.Omega.{arith}
use Rattle.sets.proofs.Sizes.{size-full}
use Rattle.std.proofs.lemmas.List.{map-set}
use Rattle.sweeps.proofs.move_on.Goals as goal

-- a word has at most 64 ones
pub overflow_cast-segments : goal.overflow_cast-segments
overflow_cast-segments c = let a = c.size_of.ensures in let b = size-full 64 c.args.running in omega arith

pub returns-then-cut-to : goal.returns-then-cut-to
returns-then-cut-to c = rw c.size_of.ensures (inl (record { up = c.if-cut-to.true; number = refl; time = refl; counts = map-set _ _ _ _; enders = map-set _ _ _ _ }))

pub returns : goal.returns
returns c = inr (record { stop = c.if-cut-to.false; number = refl; time = refl; counts = refl; enders = refl })

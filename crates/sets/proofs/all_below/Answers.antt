-- `sets::all_below` meets its contract: the word of n ones is one less than the power of n.
use mathlib.Core.Path.{◌≡◌, ap}
use Prim.Native.Nat.{ℕ, ◌^◌}
use native.Mathlib.Omega.{arith}
use Rattle.sets.proofs.Bits.{one_shl}
use Rattle.sets.proofs.Words.{all-word}
use Rattle.sets.proofs.all_below.Goals as goal

pub returns-then-n-lt64 : goal.returns-then-n-lt64
returns-then-n-lt64 c = let n = c.args.n in omega (arith, one_shl n c.if-n-lt64.true, all-word n)

pub returns-else-n-lt64 : goal.returns-else-n-lt64
returns-else-n-lt64 c = let n = c.args.n in let e : n ≡ 64 = omega arith in omega (arith, all-word n, ap (λ (x : ℕ). 2 ^ x) e)

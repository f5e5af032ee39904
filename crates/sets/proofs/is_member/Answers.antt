-- `sets::is_member` meets its contract: shifting a word right by k and masking leaves its digit at k.
use mathlib.Core.Path.{ap, ◌∙◌}
use Prim.Native.Nat.{ℕ, ◌^◌, ◌/◌}
use lib.Dec.{eqb}
use lib.Bits.{and_mask}
use Rattle.sets.proofs.Bits.{bit-shift}
use Rattle.sets.proofs.is_member.Goals as goal

pub returns : goal.returns
returns c =
    let s = c.args.s in
    let k = c.args.k in
    ap (λ (x : ℕ). eqb x 1) (and_mask (s / 2 ^ k) 1 ∙ bit-shift k s)

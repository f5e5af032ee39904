-- `sets::without_member` meets its contract: `1 << k` is the word of k alone, and masking by all others leaves k out.
use mathlib.Core.Path.{ap, ◌∙◌}
use Prim.Native.Nat.{ℕ, ◌-◌, ◌^◌}
use lib.Bits.{bit_and}
use Rattle.sets.proofs.Bits.{one_shl}
use Rattle.sets.proofs.Without.{without-and}
use Rattle.sets.proofs.without_member.Goals as goal

pub returns : goal.returns
returns c =
    let s = c.args.s in
    let k = c.args.k in
    ap (λ (w : ℕ). bit_and s (2 ^ 64 - 1 - w)) (one_shl k c.requires) ∙ without-and k s c.requires c.ranges.s.fits

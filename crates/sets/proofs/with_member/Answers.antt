-- `sets::with_member` meets its contract: `1 << k` is the word of k alone, and joining it puts k in.
use mathlib.Core.Path.{ap, sym, ◌∙◌}
use lib.Bits.{bit_or}
use Rattle.sets.proofs.Bits.{one_shl, with-or}
use Rattle.sets.proofs.with_member.Goals as goal

pub returns : goal.returns
returns c = ap (bit_or c.args.s) (one_shl c.args.k c.requires) ∙ sym (with-or c.args.k c.args.s)

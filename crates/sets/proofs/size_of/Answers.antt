-- `sets::size_of` meets its contract: the ones of a word are the digits that are 1.
use mathlib.Core.Path.{◌∙◌}
use Rattle.sets.proofs.Sizes.{ones-size}
use Rattle.sets.proofs.size_of.Goals as goal

pub returns : goal.returns
returns c = c.from.ensures ∙ ones-size 64 c.args.s c.ranges.s.fits

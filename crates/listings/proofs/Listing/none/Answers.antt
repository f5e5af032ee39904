-- `Listing::none` meets its contract: of no parents, nothing is in the set and nothing is to be mended, as by default.
use mathlib.Core.Path.{sym, ◌∙◌}
use Rattle.listings.proofs.Lists.{met-none}
use Rattle.listings.proofs.Listing.none.Goals as goal

pub returns : goal.returns
returns c = let (s, (l, (r, (d, p)))) = c.default.ensures in (λ i. record { set = s i; low = l i; reordered = r i; dropped = d i; padded = c.args.padded }) ∙ sym (met-none c.args.padded)

-- A list of parents while it is read.
use Rattle.std.specs.Prelude.{ℕ, ◌+◌, List, [], ◌∷◌}
use Rattle.listings.specs.declared.Listing.{Listing}
use Rattle.listings.specs.Lists.{list_set, firsts, reordered, dropped}

-- one above the last of a list, low where it is empty
unfoldable pub past : List ℕ → (low : ℕ) → ℕ
past [] low = low
past (p ∷ ps) low = past ps (p + 1)

-- what is known of it after the parents given so far
abbrev pub listing_of : (padded : ℕ) (given : List ℕ) → Listing
listing_of padded given = record {
  set = list_set given;
  low = past (firsts given) 0;
  reordered = reordered given;
  dropped = dropped given;
  padded = padded;
}

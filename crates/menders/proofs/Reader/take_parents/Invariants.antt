use Prim.Native.Nat.{ℕ, ◌-◌}
use mathlib.Core.Path.{◌≡◌}
use mathlib.Core.List.{List}
use lib.ListN.{length}
use Rattle.listings.specs.Inner.Listing.{listing_of}
use Rattle.menders.specs.Listed.{listed, parent_list}
use Rattle.menders.proofs.Reader.take_parents.Given as goal

abbrev pub invariant-loop : goal.invariant-loop
invariant-loop l =
    (given : List ℕ)
    × (l.list ≡ listing_of l.given.spot.padded given)
    × (length given ≡ l.counter)
    × (parent_list l.n l.fn.self.bytes.now l.fn.self.spot ≡ listed (l.count - l.counter) l.n l.fn.self.bytes.now l.given.spot given)
    × (l.given.bytes.now ≡ l.fn.self.bytes.now)

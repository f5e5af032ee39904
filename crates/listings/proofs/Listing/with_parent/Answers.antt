-- `Listing::with_parent` meets its contract: a parent is a member just where it is listed, and what it changes is what the list with it behind has.
use Prim.Native.Nat.{ℕ, ◌+◌}
use mathlib.Core.Path.{◌≡◌, sym, ap, ◌∙◌}
use mathlib.Core.Bool.{Bool, true, false}
use mathlib.Core.List.{List, [], ◌∷◌, ◌++◌}
use lib.Dec.{ltb}
use Rattle.plain.specs.Pick.{pick}
use Rattle.sets.specs.Member.{is_member}
use Rattle.sets.specs.Inner.Put.{with_member}
use Rattle.listings.specs.declared.Listing.{Listing}
use Rattle.listings.specs.Lists.{is_listed}
use Rattle.listings.specs.Inner.Listing.{listing_of}
use Rattle.listings.proofs.Lists.{member-listed, met-again, met-new}
use borrow.Author.Tests.{lt-ltb, le-ltb}
use Rattle.listings.proofs.Listing.with_parent.Goals as goal
use Rattle.listings.proofs.Listing.with_parent.Goals.{After-is_member, After-with_member}

-- what the test says
tested : (c : After-is_member) (given : List ℕ) (b : Bool) → (let a = c.args in
    a.self ≡ listing_of a.self.padded given → c.is_member.result ≡ b → is_listed given a.parent ≡ b)
tested c given b e q = let a = c.args in
    sym (member-listed given a.parent c.requires.0) ∙ ap (λ (l : Listing). is_member a.parent l.set) (sym e) ∙ sym c.is_member.ensures ∙ q

pub returns-then-is_member : goal.returns-then-is_member
returns-then-is_member c given e = let a = c.args in
    ap (λ (l : Listing). record { set = l.set; low = l.low; reordered = l.reordered; dropped = l.dropped + 1; padded = a.padded }) e
    ∙ sym (met-again given a.parent a.padded (tested (goal.at.returns-then-is_member c).After-is_member given true e c.if-is_member.true) c.requires.0)

-- a new one, with what the order comes to
new : (c : After-with_member) (given : List ℕ) (b : Bool) → (let a = c.args in
    a.self ≡ listing_of a.self.padded given → ltb a.parent a.self.low ≡ b →
    record { set = c.with_member.result; low = a.parent + 1; reordered = pick b 1 a.self.reordered; dropped = a.self.dropped; padded = a.padded }
    ≡ listing_of a.padded (given ++ a.parent ∷ []))
new c given b e q = let a = c.args in
    (λ i. record {
      set = (c.with_member.ensures ∙ ap (λ (l : Listing). with_member a.parent l.set) e) i;
      low = a.parent + 1;
      reordered = (ap (λ (t : Bool). pick t 1 a.self.reordered) (sym q) ∙ ap (λ (l : Listing). pick (ltb a.parent l.low) 1 l.reordered) e) i;
      dropped = (e i).dropped;
      padded = a.padded;
    })
    ∙ sym (met-new given a.parent a.padded (tested (goal.at-After-with_member c).After-is_member given false e c.if-is_member.false) c.requires.0)

pub returns-then-below : goal.returns-then-below
returns-then-below c given e = new (goal.at.returns-then-below c).After-with_member given true e (lt-ltb _ _ c.if-below.true)

pub returns-else-below : goal.returns-else-below
returns-else-below c given e = new (goal.at.returns-else-below c).After-with_member given false e (le-ltb _ _ c.if-below.false)

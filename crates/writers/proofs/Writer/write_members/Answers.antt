-- `Writer::write_members` meets its contract: the walk meets the members in their order, and each one that is stored leaves the others.
use Prim.Native.Nat.{ℕ}
use mathlib.Core.Path.{◌≡◌, refl, sym, ap, ◌∙◌}
use mathlib.Core.List.{◌∷◌}
use native.Mathlib.Numerals.{add-one}
use native.Mathlib.Omega.{arith}
use lib.ListN.{length, length-set}
use lib.Seq.{sets}
use Rattle.sets.specs.Members.{members}
use Rattle.sets.proofs.Walks.{no-members, members-out}
use Rattle.writers.proofs.Writer.write_members.Goals as goal
use Rattle.writers.proofs.Writer.write_members.Goals.{In-Some}

pub loop-member-init : goal.loop-member-init
loop-member-init c =
    let all = ap (λ m. m.left) c.into_iter-member-iterator.ensures.into_iter_gives ∙ c.of-member-items.ensures in
    rw all (refl, refl, refl, refl)

-- the first member of those that are left, and the others
first : (c : In-Some) → members 64 c.loop-member.member-iterator.left ≡ c.in-Some.member ∷ members 64 c.next.new.self.left
first c = let w = c.in-Some.ensures.steps in members-out 64 _ _ w.lt w.mem w.low ∙ ap (λ (r : ℕ). c.in-Some.member ∷ members 64 r) (sym w.out)

pub bounds-self-self : goal.bounds-self-self
bounds-self-self c = omega (arith, ap length (first (goal.at.bounds-self-self c).In-Some))

pub loop-member-preserved : goal.loop-member-preserved
loop-member-preserved c = let l = c.loop-member in (
  rw (add-one l.self.at) (l.invariant.0 ∙ ap (sets l.self.bytes.now l.self.at) (first (goal.at.loop-member-preserved c).In-Some)),
  omega (arith, l.invariant.1, ap length (first (goal.at.loop-member-preserved c).In-Some)),
  length-set l.self.bytes.now l.self.at _ ∙ l.invariant.2,
  l.invariant.3,
)

pub returns : goal.returns
returns c = let l = c.loop-member in let none = ap (members 64) c.in-None.ensures.steps ∙ no-members 64 in
    record { same_reference = l.invariant.3; place = omega (arith, l.invariant.1, ap length none); bytes_after = sym (l.invariant.0 ∙ ap (sets l.self.bytes.now l.self.at) none) }

-- `Reader::take_parents` meets its contract. The loop's invariant: the parents still to be taken, put behind those given so far, make the whole list, and what
-- is known of it is that of the parents so far.
use Prim.Native.Nat.{ℕ, ◌-◌}
use mathlib.Core.Path.{◌≡◌, refl, sym, ap, ◌∙◌}
use mathlib.Core.List.{[], ◌∷◌, ◌++◌}
use native.Mathlib.Omega.{arith}
use lib.ListN.{length, length-append}
use Rattle.std.specs.Prelude.{Result, Ok}
use Rattle.refusals.specs.declared.Refusal.{Refusal}
use Rattle.refusals.specs.Numbers.{bad_parent}
use Rattle.refusals.proofs.Out.{goes-out}
use Rattle.listings.specs.declared.Listing.{Listing}
use Rattle.listings.specs.Lists.{given_max, firsts}
use Rattle.listings.specs.Inner.Listing.{listing_of}
use Rattle.menders.specs.Listed.{listed, parent_list}
use Rattle.menders.specs.Inner.Reader.{list_to}
use Rattle.menders.proofs.Cases.{then-read, then-refused, listed-none, listed_more}
use Rattle.menders.proofs.Inside.{Passed, passed, along}
use Rattle.menders.proofs.Reader.take_parents.Goals as goal
use Rattle.menders.proofs.Reader.take_parents.Goals.{In_ok-count, In_ok-parent}

-- the parent count
count : (c : In_ok-count) → Passed bad_parent 0 given_max c.args.self.now.bytes.now c.args.self.now.spot (record { value = c.in_ok-count.count; spot = c.take_number.new.self.spot })
count c = passed _ _ _ _ _ _ c.in_ok-count.ensures.step c.args.self.now.within

pub returns-in_err-count-clause-list : goal.returns-in_err-count-clause-list
unfolding parent_list
returns-in_err-count-clause-list c =
    ap (λ (o : Result Listing Refusal). list_to o c.args.self.now.spot) (goes-out _ _ c.from_residual.ensures.1) ∙ sym (then-refused _ _ _ _ (sym c.in_err-count.ensures.step))

pub loop-init : goal.loop-init
unfolding parent_list
loop-init c = let e : c.in_ok-count.count ≡ c.in_ok-count.count - 0 = omega arith in (
  [],
  c.none-list.ensures,
  refl,
  then-read _ _ _ _ (sym c.in_ok-count.ensures.step) ∙ ap (λ (k : ℕ). listed k c.args.n c.args.self.now.bytes.now c.take_number.new.self.spot []) e,
  c.in_ok-count.ensures.bytes,
)

-- the parent that a turn took
parent : (c : In_ok-parent) → Passed bad_parent 0 (c.args.n - 1) c.loop.given.bytes.now c.loop.given.spot (record { value = c.in_ok-parent.parent; spot = c.take_number-in-loop.new.self.spot })
parent c = passed _ _ _ _ _ _ c.in_ok-parent.ensures.step c.loop.given.within

pub returns-in_err-parent-clause-list : goal.returns-in_err-parent-clause-list
returns-in_err-parent-clause-list c = let l = c.loop in
    ap (λ (o : Result Listing Refusal). list_to o c.args.self.now.spot) (goes-out _ _ c.from_residual-in_err-parent.ensures.1)
    ∙ sym (l.invariant.3 ∙ listed_more _ _ _ _ l.counter _ (omega arith) ∙ then-refused _ _ _ _ (along _ _ _ _ l.invariant.4 c.in_err-parent.ensures.step))

pub with_parent-list-requires : goal.with_parent-list-requires
with_parent-list-requires c = let p = parent (goal.at.with_parent-list-requires c).In_ok-parent in let n = count (goal.at.with_parent-list-requires c).In_ok-count in let l = c.loop in
    let d : l.list.dropped ≡ length l.invariant.0 - length (firsts l.invariant.0) = ap (λ (x : Listing). x.dropped) l.invariant.1 in
    (omega (arith, p.most), omega (arith, n.most))

pub loop-preserved : goal.loop-preserved
loop-preserved c = let l = c.loop in let v = c.in_ok-parent.parent in
    let padded : l.list.padded ≡ l.given.spot.padded = ap (λ (x : Listing). x.padded) l.invariant.1 in (
      l.invariant.0 ++ v ∷ [],
      c.with_parent-list.ensures l.invariant.0 (l.invariant.1 ∙ ap (λ (k : ℕ). listing_of k l.invariant.0) (sym padded)),
      omega (arith, length-append l.invariant.0 (v ∷ []), l.invariant.2),
      l.invariant.3 ∙ listed_more _ _ _ _ l.counter _ (omega arith) ∙ then-read _ _ _ _ (along _ _ _ _ l.invariant.4 c.in_ok-parent.ensures.step),
      c.in_ok-parent.ensures.bytes ∙ l.invariant.4,
    )

pub returns-clause-list : goal.returns-clause-list
returns-clause-list c = let l = c.loop in
    ap (λ (x : Listing). list_to (Ok x) l.given.spot) l.invariant.1 ∙ sym (l.invariant.3 ∙ listed-none _ _ _ _ _ (omega arith))

-- `buildings::count_records` meets its contract: 26 and 27 first; then each turn adds the tally of the record that stands at the place, and the walk is left where it ends.
use mathlib.Core.Path.{◌≡◌, sym, ap, ◌∙◌}
use mathlib.Core.List.{List}
use Prim.Native.Nat.{ℕ, ◌+◌, ◌≤◌, ◌<◌}
use native.Mathlib.Omega.{arith}
use lib.ListN.{length}
use Rattle.std.specs.Prelude.{Ok}
use Rattle.refusals.proofs.Out.{goes-out}
use Rattle.tables.specs.Limits.{cost_max}
use Rattle.records.specs.Step.{read}
use Rattle.files.specs.File.{record_at, part_of}
use Rattle.files.proofs.Walked.{laid_more}
use Rattle.buildings.specs.Building.{file_max, before_walking}
use Rattle.buildings.specs.Inner.Tally.{tally_of, with_tally}
use Rattle.buildings.proofs.Cases.{ready, call-refused, call-walked}
use Rattle.buildings.proofs.Sized.{tally-low}
use Rattle.buildings.proofs.Walked.{counted_none, counted-more, counted-few, counted-sized, counted-whole, counted-stopped}
use Rattle.buildings.proofs.count_records.Goals as goal
use Rattle.buildings.proofs.count_records.Goals.{After-tally_of, In_ok-before_walking, In_ok-found}

pub returns-in_err-before_walking : goal.returns-in_err-before_walking
returns-in_err-before_walking c = rw (goes-out _ _ c.from_residual.ensures.1, c.requires) (sym (call-refused c.args.file.now c.args.cost (sym c.in_err-before_walking.ensures)))

-- neither 26 nor 27
first : (c : In_ok-before_walking) → (before_walking (length c.args.file.now) c.args.cost ≡ Ok tt)
first c = sym c.in_ok-before_walking.ensures

limits : (c : In_ok-before_walking) → (c.args.cost ≤ cost_max) × (length c.args.file.now ≤ file_max)
limits c = ready _ _ (first c)

pub loop-at-init : goal.loop-at-init
loop-at-init c = counted_none c.args.file.now c.args.cost (omega arith) c.requires

pub returns-in_err-found : goal.returns-in_err-found
returns-in_err-found c =
    rw (goes-out _ _ c.from_residual-in_err-found.ensures.1) (counted-stopped _ _ c.loop-at.invariant c.loop-at-test.true (sym c.in_err-found.ensures))
    ∙ sym (call-walked _ _ (first (goal.at.returns-in_err-found c).In_ok-before_walking))

-- a record stands at the place
here : (c : In_ok-found) → (record_at c.args.file.now c.loop-at.at ≡ read c.in_ok-found.found.value c.in_ok-found.found.next)
here c = sym c.in_ok-found.ensures

inside : (c : In_ok-found) → (c.in_ok-found.found.next + c.in_ok-found.found.value ≤ length c.args.file.now) × (c.loop-at.at < c.in_ok-found.found.next + c.in_ok-found.found.value)
inside c = let m = laid_more _ c.loop-at.invariant.laid (here c) in (m.0, m.1)

pub part_of-requires : goal.part_of-requires
part_of-requires c = (inside (goal.at.part_of-requires c).In_ok-found).0

pub tally_of-requires : goal.tally_of-requires
tally_of-requires c = ((limits (goal.at.tally_of-requires c).In_ok-before_walking).0, omega (arith, c.loop-at.invariant.room))

-- what the record adds
tally : (c : After-tally_of) → (c.tally_of.result ≡ tally_of (part_of c.args.file.now c.in_ok-found.found.next c.in_ok-found.found.value) c.args.cost)
tally c = c.tally_of.ensures ∙ ap (λ (x : List ℕ). tally_of x c.args.cost) c.part_of.ensures

pub add-requires : goal.add-requires
add-requires c =
    let l = limits (goal.at.add-requires c).In_ok-before_walking in
    (length c.loop-at.invariant.before, counted-few _ _ c.loop-at.invariant l.1 c.loop-at-test.true, counted-sized _ _ c.loop-at.invariant l.0, rw c.tally_of.ensures (tally-low _ l.0 _))

pub overflow_add-at : goal.overflow_add-at
overflow_add-at c = omega (arith, inside (goal.at.overflow_add-at c).In_ok-found, (limits (goal.at.overflow_add-at c).In_ok-before_walking).1)

pub loop-at-smaller : goal.loop-at-smaller
loop-at-smaller c = omega (arith, inside (goal.at.loop-at-smaller c).In_ok-found)

pub loop-at-preserved : goal.loop-at-preserved
loop-at-preserved c =
    counted-more _ _ c.loop-at.invariant (limits (goal.at.loop-at-preserved c).In_ok-before_walking).0 (here (goal.at.loop-at-preserved c).In_ok-found) (c.tally_of.auto.words ∙ c.loop-at.invariant.room)
    (c.add.ensures ∙ ap (with_tally c.loop-at.counts) (tally (goal.at.loop-at-preserved c).After-tally_of))

pub returns : goal.returns
returns c = counted-whole _ _ c.loop-at.invariant c.loop-at-test.false ∙ sym (call-walked _ _ (first (goal.at.returns c).In_ok-before_walking))

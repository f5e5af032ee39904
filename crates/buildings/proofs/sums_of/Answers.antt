-- `buildings::sums_of` meets its contract: what it reads off the words is the table's own.
use mathlib.Core.Path.{◌≡◌, refl, ap, ◌∙◌}
use mathlib.Core.Bool.{Bool, true, false}
use Prim.Native.Nat.{◌-◌, ◌≤◌}
use native.Mathlib.Omega.{arith}
use lib.Dec.{ltb}
use lib.ListN.{length}
use Rattle.std.specs.Int.{from_bool}
use Rattle.plain.specs.Pick.{one}
use Rattle.tables.specs.Limits.{million}
use Rattle.plain.specs.At.{at}
use Rattle.plain.specs.Sums.{max_to}
use Rattle.tables.specs.declared.TaskTable.{TaskTable}
use Rattle.shares.specs.declared.Kinds.{Kinds}
use Rattle.shares.specs.declared.Figures.{Figures}
use Rattle.shares.specs.Figures.{figures}
use Rattle.shares.specs.Words.{threads_at, length_at}
use Rattle.shares.proofs.Heavies.{heavies-le}
use Rattle.plans.specs.Shares.{density}
use Rattle.plans.proofs.Figures.{figures-read, figures-in}
use Rattle.buildings.specs.Inner.PlanOf.{PlanOf}
use Rattle.buildings.specs.Task.{heavy_in, light_in}
use Rattle.buildings.proofs.Sized.{heavy-light}
use Rattle.buildings.proofs.Planned.{plan-long, segments-are, nodes-are, segments-few, deal-in, heavy-are, part-is}
use Rattle.buildings.proofs.sums_of.Goals as goal
use Rattle.buildings.proofs.sums_of.Goals.{After-figures_of-figures, After-from, After-kinds_of-kinds, Start}

-- the words have room for a plan, and tell few segments
sized : (c : Start) → (387 ≤ length c.args.words.now) × (at c.args.words.now 1 ≤ 64)
sized c = (plan-long c.requires.1, segments-few c.requires.1)

pub bounds-words-1 : goal.bounds-words-1
bounds-words-1 c = omega (arith, sized (goal.at.bounds-words-1 c).Start)

pub bounds-words-2 : goal.bounds-words-2
bounds-words-2 c = omega (arith, sized (goal.at.bounds-words-2 c).Start)

pub kinds_of-kinds-requires : goal.kinds_of-kinds-requires
kinds_of-kinds-requires c = deal-in c.requires.1

pub overflow_mul-s : goal.overflow_mul-s
overflow_mul-s c = omega (arith, sized (goal.at.overflow_mul-s c).Start)

pub overflow_add-s : goal.overflow_add-s
overflow_add-s c = omega (arith, sized (goal.at.overflow_add-s c).Start)

pub offset_bounds-words-s : goal.offset_bounds-words-s
offset_bounds-words-s c = omega (arith, sized (goal.at.offset_bounds-words-s c).Start)

pub slice_bounds-figures_of-count : goal.slice_bounds-figures_of-count
slice_bounds-figures_of-count c = omega (arith, sized (goal.at.slice_bounds-figures_of-count c).Start)

pub slice_bounds-figures_of-start : goal.slice_bounds-figures_of-start
slice_bounds-figures_of-start c = omega (arith, sized (goal.at.slice_bounds-figures_of-start c).Start)

pub figures_of-figures-requires : goal.figures_of-figures-requires
figures_of-figures-requires c =
    let of = c.requires.1 in
    let f = figures-in of.totals.table of.lent of.room (part-is of) in
    rw (nodes-are of) (record { n_le_count_max = f.0; by_index = f.1 })

pub overflow_sub-result : goal.overflow_sub-result
overflow_sub-result c = rw (ap (λ (x : Kinds). x.heavies) c.kinds_of-kinds.ensures) (heavies-le _ _ _ _ (threads_at c.args.words.now) (length_at c.args.words.now))

-- the counts are the table's
heavy : (c : After-kinds_of-kinds) (t : TaskTable) → PlanOf t c.args.words.now c.args.period c.args.planning → c.kinds_of-kinds.result.heavies ≡ heavy_in t
heavy c t of = ap (λ (x : Kinds). x.heavies) c.kinds_of-kinds.ensures ∙ heavy-are of

largest : (c : After-figures_of-figures) (t : TaskTable) → PlanOf t c.args.words.now c.args.period c.args.planning → c.figures_of-figures.result.largest ≡ max_to t.count (density t)
largest c t of =
    let read : c.figures_of-figures.result ≡ figures t.count (density t) = c.figures_of-figures.ensures ∙ rw (nodes-are of) (figures-read t of.lent (part-is of)) in
    ap (λ (x : Figures). x.largest) read

-- a test as a number
one-is : (b : Bool) → from_bool b ≡ one b
one-is true = refl
one-is false = refl

-- a density above one counts as dense
dense : (c : After-from) → (c.from.result ≡ one (ltb million c.figures_of-figures.result.largest))
dense c = c.from.ensures ∙ one-is (ltb million c.figures_of-figures.result.largest)

pub returns : goal.returns
returns c = λ t of.
    let h = heavy (goal.at.returns c).After-kinds_of-kinds t of in
    let s = segments-are of in
    let light : at c.args.words.now 1 - c.kinds_of-kinds.result.heavies ≡ light_in t = omega (arith, heavy-light t) in
    rw (light, nodes-are of, s, of.totals.work, h, dense (goal.at.returns c).After-from, largest (goal.at.returns c).After-figures_of-figures t of)

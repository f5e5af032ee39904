-- `admissions::row_of` meets its contract: the plan's nodes stand in its last words, and the figures read off these, with what planning told, are the
-- row.
use mathlib.Core.Path.{◌≡◌, sym, ap, subst, ◌∙◌}
use mathlib.Core.List.{List}
use Prim.Native.Nat.{ℕ, ◌+◌, ◌*◌, ◌-◌, ◌≤◌, ◌<◌}
use native.Mathlib.Omega.{arith}
use lib.ListN.{length, take, drop}
use Rattle.plain.specs.At.{at}
use Rattle.tables.specs.declared.TaskTable.{TaskTable}
use Rattle.tables.specs.Limits.{count_max, density_max}
use Rattle.shares.specs.Figures.{figures, smallest_to}
use Rattle.plans.proofs.Read.{at-over}
use Rattle.plans.proofs.Figures.{node_part, plan-fits, part-lent, figures-in, figures-read, shortest-read}
use Rattle.admissions.specs.Inner.PlanIn.{PlanIn}
use Rattle.admissions.proofs.row_of.Goals as goal
use Rattle.admissions.proofs.row_of.Goals.{Start}

abbrev Holds : (c : Start) → TaskTable → Type 0
Holds c t = let a = c.args in PlanIn t a.id a.n a.planning a.words.now

-- the table that the caller has
some-table : (c : Start) → (t : TaskTable) × Holds c t
some-table c = c.requires

-- the words of the nodes, and where they begin
abbrev from : (c : Start) → ℕ
from c = let a = c.args in a.planning.words - 3 * a.n

abbrev nodes : (c : Start) → List ℕ
nodes c = let w = c.args.words.now in take (length w - from c) (drop (from c) w)

part : (c : Start) {t : TaskTable} (p : Holds c t) → nodes c ≡ node_part t p.old
part c {t} p = part-lent t p.old p.plan (omega (arith, p.totals.words, p.count))

-- the whole plan lies in the words
inside : (c : Start) → (let a = c.args in (3 * a.n ≤ a.planning.words) × (a.planning.words ≤ length a.words.now))
inside c =
    let p = (some-table c).1 in
    let all = ap length p.plan in
    (omega (arith, p.totals.words, p.count), omega (arith, p.totals.words, plan-fits p.totals.table p.old p.room))

-- what reading the figures of n nodes asks
abbrev Readable : List ℕ → ℕ → Type 0
Readable part n = ((n ≤ count_max) × (3 * n ≤ length part)) × ((v : ℕ) → v < n → at part (3 * v + 2) ≤ density_max)

readable : (c : Start) → Readable (nodes c) c.args.n
readable c =
    let p = (some-table c).1 in
    subst (Readable (nodes c)) (sym p.count) (figures-in p.totals.table p.old p.room (part c p))

pub overflow_sub-from : goal.overflow_sub-from
overflow_sub-from c = omega (arith, (inside (goal.at.overflow_sub-from c).Start).0)

pub offset_bounds-words-from : goal.offset_bounds-words-from
offset_bounds-words-from c = omega (arith, (inside (goal.at.offset_bounds-words-from c).Start).1)

pub slice_bounds-nodes-count : goal.slice_bounds-nodes-count
slice_bounds-nodes-count c = omega (arith, (inside (goal.at.slice_bounds-nodes-count c).Start).1)

pub slice_bounds-nodes-start : goal.slice_bounds-nodes-start
slice_bounds-nodes-start c = omega (arith, (inside (goal.at.slice_bounds-nodes-start c).Start).1)

pub figures_of-figures-requires : goal.figures_of-figures-requires
figures_of-figures-requires c =
    let lent = readable (goal.at.figures_of-figures-requires c).Start in
    record { n_le_count_max = lent.0; by_index = lent.1 }

pub shortest_of-shortest-requires : goal.shortest_of-shortest-requires
shortest_of-shortest-requires c = (readable (goal.at.shortest_of-shortest-requires c).Start).0

pub bounds-words-0 : goal.bounds-words-0
bounds-words-0 c =
    let p = (some-table (goal.at.bounds-words-0 c).Start).1 in
    omega (arith, p.totals.words, (inside (goal.at.bounds-words-0 c).Start).1)

pub returns : goal.returns
returns c = λ t p.
    let dense = c.figures_of-figures.ensures ∙ ap (λ (m : ℕ). figures m (λ v. at (nodes (goal.at.returns c).Start) (3 * v + 2))) p.count ∙ figures-read t p.old (part (goal.at.returns c).Start p) in
    let short = c.shortest_of-shortest.ensures ∙ ap (λ (m : ℕ). smallest_to m (λ v. at (nodes (goal.at.returns c).Start) (3 * v + 1))) p.count ∙ shortest-read t p.old (part (goal.at.returns c).Start p) in
    let over = ap (λ (w : List ℕ). at w 0) p.plan ∙ at-over t p.old in
    λ i. record { id = p.id i; nodes = p.count i; sum = (dense i).sum; largest = (dense i).largest; longest = p.totals.longest i; shortest = short i; over = over i }

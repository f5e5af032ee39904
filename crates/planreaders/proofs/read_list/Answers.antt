-- `planreaders::read_list` meets its contract: the count's range is tried first, and then its triples are read. The loop's invariant: the numbers so far stand in
-- the words, and those still to be read make the rest of the list.
use mathlib.Core.Path.{◌≡◌, refl, sym, ap, ◌∙◌}
use mathlib.Core.List.{List, [], ◌∷◌, ◌++◌}
use Prim.Native.Nat.{ℕ, ◌*◌}
use native.Mathlib.Omega.{arith}
use lib.ListN.{length, take, drop}
use lib.Seq.{length-take-le}
use Rattle.refusals.specs.Numbers.{bad_plan}
use Rattle.refusals.proofs.Out.{goes-out}
use Rattle.tables.specs.Limits.{count_max}
use Rattle.numbers.specs.Number.{plan_more}
use Rattle.records.proofs.Inside.{Passed, passed}
use Rattle.planreaders.specs.Plan.{values_from, list_at}
use Rattle.planreaders.proofs.Filling.{fill-part}
use Rattle.planreaders.proofs.Lists.{told-refused, told-read, list-out, list-more, reading-none, reading-more, reading-out, reading-all}
use Rattle.planreaders.proofs.read_list.Goals as goal
use Rattle.planreaders.proofs.read_list.Goals.{In_ok-count}

pub returns-in_err-count : goal.returns-in_err-count
returns-in_err-count c =
    let t = told-refused (list-out _ _ (sym (rw c.number.ensures at (c.in_err-count.ensures _ _ c.read_value-whole.ensures)))) (goes-out _ _ c.from_residual.ensures.1) in
    record { value = t.0; by_index = t.1 }

count : (c : In_ok-count) → (let a = c.args in
    Passed plan_more bad_plan 1 count_max a.plan.now a.at c.in_ok-count.count.value c.in_ok-count.count.next)
count c = passed _ _ _ _ _ _ _ _ _ (rw c.number.ensures at (c.in_ok-count.ensures _ _ c.read_value-whole.ensures)) refl (omega arith)

-- the part that is lent has room for the triples
part : (c : In_ok-count) → (let n = c.in_ok-count.count.value in length (take (3 * n) c.args.words.now) ≡ 3 * n)
part c = length-take-le _ _ (omega (arith, c.requires, (count c).most))

pub overflow_mul-word-items : goal.overflow_mul-word-items
overflow_mul-word-items c = omega (arith, (count (goal.at.overflow_mul-word-items c).In_ok-count).most)

pub slice_bounds-word-items-end : goal.slice_bounds-word-items-end
slice_bounds-word-items-end c = omega (arith, (count (goal.at.slice_bounds-word-items-end c).In_ok-count).most)

pub slice_bounds-word-items-end-2 : goal.slice_bounds-word-items-end-2
slice_bounds-word-items-end-2 c = omega (arith, part (goal.at.slice_bounds-word-items-end-2 c).In_ok-count)

pub loop-word-init : goal.loop-word-init
loop-word-init c = reading-none _ _ _ _ (count (goal.at.loop-word-init c).In_ok-count).inside

-- what the triples come to is what the list comes to
more : (c : In_ok-count) → (let a = c.args in let n = c.in_ok-count.count.value in
    list_at a.plan.now a.at ≡ values_from (3 * n) (n ∷ []) a.plan.now c.in_ok-count.count.next)
more c = list-more _ _ (count c).is

pub returns-in_err-read : goal.returns-in_err-read
returns-in_err-read c =
    let p = (goal.at.returns-in_err-read c).In_ok-count in
    let size = part p in
    let t = told-refused (more p ∙ reading-out c.loop-word.invariant (omega arith) (sym c.in_err-read.ensures)) (goes-out _ _ c.from_residual-in_err-read.ensures.1) in
    record { value = t.0; by_index = t.1 }

pub loop-word-preserved : goal.loop-word-preserved
loop-word-preserved c =
    let size = part (goal.at.loop-word-preserved c).In_ok-count in reading-more c.loop-word.invariant (omega arith) (omega arith) (sym c.in_ok-read.ensures)

pub returns : goal.returns
returns c =
    let p = (goal.at.returns c).In_ok-count in
    let r = c.loop-word.invariant in
    let n = c.in_ok-count.count.value in
    let w = c.args.words.now in
    let size = part p in
    let stored = ap (λ (x : List ℕ). x ++ drop (3 * n) w) r.stored ∙ fill-part r.done w (3 * n) (omega arith) in
    let t = told-read (more p ∙ reading-all r (omega arith)) refl stored in
    record { value = t.0; by_index = t.1 }

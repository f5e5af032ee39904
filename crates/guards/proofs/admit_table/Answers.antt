-- `guards::admit_table` meets its contract: up to the row it does beside the lent words what noting does in them; the guard then asks the
-- verdict of the board with the row, and the plan is copied in and the row goes to its place just where that is yes.
use Rattle.std.proofs.Common.{◌≡◌, refl, sym, ap, ap₂, ◌∙◌, List, ℕ, ◌+◌, ◌-◌, ◌*◌, ◌≤◌, ◌<◌, length, replicate, max, set, take, drop, ◌++◌, arith}
use Rattle.std.specs.Prelude.{Ok}
use lib.Dec.{leb}
use Rattle.refusals.specs.Answer.{accepted, answered}
use Rattle.refusals.proofs.Out.{goes-out}
use Rattle.tables.specs.declared.TaskTable.{TaskTable}
use Rattle.tables.specs.Limits.{million}
use Rattle.tables.specs.Cost.{costed}
use Rattle.plans.specs.Diagram.{segment_count}
use Rattle.plans.specs.Words.{words_max, word_count, written}
use Rattle.plans.specs.Calls.{on_table}
use Rattle.plans.proofs.Read.{words-fit}
use Rattle.plans.proofs.Figures.{plan-fits}
use Rattle.boards.specs.declared.Row.{Row}
use Rattle.boards.specs.Row.{rows_max}
use Rattle.boards.specs.Sound.{Sound}
use Rattle.boards.specs.Find.{free_at}
use Rattle.boards.specs.Verdict.{sum_of, largest_of, verdict}
use Rattle.boards.proofs.Sound.{sound-test, sum_of-le, largest_of-le}
use Rattle.admissions.specs.Admission.{row_of, not_admitted}
use Rattle.admissions.specs.Inner.PlanIn.{PlanIn}
use Rattle.admissions.proofs.Place.{found, later_of, later-refused}
use Rattle.admissions.proofs.Tests.{table-out, table-in, leaves}
use Rattle.std.proofs.lemmas.List.{length-take-le}
use Rattle.guards.specs.Guarded.{guarded_entry}
use Rattle.guards.proofs.Copy.{plan-copied}
use Rattle.guards.proofs.Guarding.{sum-beside, largest-beside, later-told, guard_out, free-low, beside-sound, told, turned-away, kept_in}
use Rattle.guards.proofs.admit_table.Goals as goal
use Rattle.guards.proofs.admit_table.Goals.{Start, After-told_place-place, After-from-later, In_ok-planning, After-row_of-row, After-guard-verdict}

-- the board with a task's row
abbrev next : List Row → TaskTable → List Row
next rows t = set rows (free_at rows) (row_of t)

-- the words beside, before the plan
abbrev zeros : List ℕ
zeros = replicate words_max 0

-- what the two places tell
found-so : (c : After-told_place-place) → c.told_place-place.result ≡ found c.args.asking.board.now.rows (row_of (costed c.args.table.now c.args.cost))
found-so c = rw (c.place_of.ensures, c.place_of-2.ensures) at c.told_place-place.ensures

-- planning is told that
later-so : (c : After-from-later) → c.from-later.result ≡ later_of c.told_place-place.result
later-so c = c.from-later.ensures ∙ ap answered c.and.ensures

pub returns-in_err-planning-clause-told : goal.returns-in_err-planning-clause-told
returns-in_err-planning-clause-told c =
    let words = c.args.words.now in
    let rows = c.args.asking.board.now.rows in
    let t = costed c.args.table.now c.args.cost in
    let found = found-so (goal.at.returns-in_err-planning-clause-told c).After-told_place-place in
    let later = later-so (goal.at.returns-in_err-planning-clause-told c).After-from-later in
    let planned = c.in_err-planning.ensures in
    let out = table-out words zeros t (guarded_entry rows words c.args.asking.cores) c.from-later.result planned.words_after
    (λ n. guard_out rows words c.args.asking.cores t found _ (later-refused c.told_place-place.result later n)) planned.refusing in
    let told = goes-out _ _ c.from_residual.ensures.1 in
    (λ i. record { change = told i; words = words }) ∙ sym out.0

-- where the table has a plan, its place was told, the words beside are written, and the guard is asked
written-so : (c : In_ok-planning) →
    (let words = c.args.words.now in let t = costed c.args.table.now c.args.cost in let enter = guarded_entry c.args.asking.board.now.rows words c.args.asking.cores in
    (c.from-later.result.refusal ≡ 0) × (accepted c.in_ok-planning.planning.words ≡ accepted (word_count (segment_count t) t.count)) × (c.plan_table.new.words ≡ written t zeros) × (on_table (not_admitted words) enter t ≡ enter t))
written-so c =
    let words = c.args.words.now in
    let planned = c.in_ok-planning.ensures in
    table-in words zeros (costed c.args.table.now c.args.cost) (guarded_entry c.args.asking.board.now.rows words c.args.asking.cores) c.from-later.result planned.words_after refl planned.totalled.table

placed-so : (c : In_ok-planning) → (a : ℕ) × (c.told_place-place.result ≡ Ok a)
placed-so c =
    let found = found-so (goal.at-In_ok-planning c).After-told_place-place in
    let later = later-so (goal.at-In_ok-planning c).After-from-later in
    later-told c.args.asking.board.now.rows (row_of (costed c.args.table.now c.args.cost)) c.told_place-place.result found later (written-so c).0

-- the plan stands in the words beside
plan-in : (c : In_ok-planning) → PlanIn (costed c.args.table.now c.args.cost) c.args.table.now.id c.args.table.now.count c.in_ok-planning.planning c.plan_table.new.words
plan-in c = record {
  totals = c.in_ok-planning.ensures.totalled;
  id = refl;
  count = refl;
  old = zeros;
  room = omega arith;
  plan = (written-so c).2;
}

pub row_of-row-requires : goal.row_of-row-requires
row_of-row-requires c = (costed c.args.table.now c.args.cost, plan-in (goal.at.row_of-row-requires c).In_ok-planning)

row-so : (c : After-row_of-row) → c.row_of-row.result ≡ row_of (costed c.args.table.now c.args.cost)
row-so c = c.row_of-row.ensures (costed c.args.table.now c.args.cost) (plan-in (goal.at-After-row_of-row c).In_ok-planning)

sound-so : (c : Start) → Sound c.args.asking.board.now.rows
sound-so c = sound-test c.args.asking.board.now.rows c.args.asking.sound

next-sound : (c : In_ok-planning) → Sound (next c.args.asking.board.now.rows (costed c.args.table.now c.args.cost))
next-sound c =
    beside-sound c.args.asking.board.now.rows c.args.words.now c.args.asking.cores (costed c.args.table.now c.args.cost) (found-so (goal.at-In_ok-planning c).After-told_place-place) (placed-so c).1 (sound-so (goal.at-In_ok-planning c).Start)
    c.in_ok-planning.ensures.totalled.table

low : (c : In_ok-planning) → free_at c.args.asking.board.now.rows < rows_max
low c = free-low c.args.asking.board.now.rows c.args.words.now c.args.asking.cores (costed c.args.table.now c.args.cost) (found-so (goal.at-In_ok-planning c).After-told_place-place) (placed-so c).1

-- S and M of that board
sum-so : (c : After-row_of-row) → (sum_of c.args.asking.board.now.rows + c.row_of-row.result.sum ≡ sum_of (next c.args.asking.board.now.rows (costed c.args.table.now c.args.cost)))
sum-so c =
    let t = costed c.args.table.now c.args.cost in
    ap (λ (r : Row). sum_of c.args.asking.board.now.rows + r.sum) (row-so c) ∙ sym (sum-beside (sound-so (goal.at-After-row_of-row c).Start) (low (goal.at-After-row_of-row c).In_ok-planning) (row_of t))

largest-so : (c : After-row_of-row) → (max (largest_of c.args.asking.board.now.rows) c.row_of-row.result.largest ≡ largest_of (next c.args.asking.board.now.rows (costed c.args.table.now c.args.cost)))
largest-so c =
    let t = costed c.args.table.now c.args.cost in
    ap (λ (r : Row). max (largest_of c.args.asking.board.now.rows) r.largest) (row-so c) ∙ sym (largest-beside (sound-so (goal.at-After-row_of-row c).Start) (low (goal.at-After-row_of-row c).In_ok-planning) (row_of t))

pub loaded-next-requires : goal.loaded-next-requires
loaded-next-requires c =
    omega (arith, c.load-load.ensures.tallied.0, sum-so (goal.at.loaded-next-requires c).After-row_of-row, sum_of-le (next-sound (goal.at.loaded-next-requires c).In_ok-planning))

pub guard-verdict-requires : goal.guard-verdict-requires
guard-verdict-requires c =
    let s = next-sound (goal.at.guard-verdict-requires c).In_ok-planning in
    let row = (goal.at.guard-verdict-requires c).After-row_of-row in
    record {
      sum-high = omega (arith, c.loaded-next.ensures.0, c.load-load.ensures.tallied.0, sum-so row, sum_of-le s);
      largest-high = omega (arith, c.loaded-next.ensures.1, c.load-load.ensures.tallied.1, largest-so row, largest_of-le s);
    }

-- so the guard tells the verdict of that board
verdict-so : (c : After-guard-verdict) → c.guard-verdict.result ≡ told (verdict (next c.args.asking.board.now.rows (costed c.args.table.now c.args.cost)) c.args.asking.cores)
verdict-so c =
    let m = c.args.asking.cores in
    let row = (goal.at-After-guard-verdict c).After-row_of-row in
    c.guard-verdict.ensures
    ∙ ap₂ (λ (S M : ℕ). told (leb (S + (m - 1) * M) (m * million)))
    (c.loaded-next.ensures.0 ∙ ap (λ (x : ℕ). x + c.row_of-row.result.sum) c.load-load.ensures.tallied.0 ∙ sum-so row)
    (c.loaded-next.ensures.1 ∙ ap (λ (x : ℕ). max x c.row_of-row.result.largest) c.load-load.ensures.tallied.1 ∙ largest-so row)

pub returns-in_err-at-clause-told : goal.returns-in_err-at-clause-told
returns-in_err-at-clause-told c =
    let words = c.args.words.now in
    let rows = c.args.asking.board.now.rows in
    let m = c.args.asking.cores in
    let t = costed c.args.table.now c.args.cost in
    let found = found-so (goal.at.returns-in_err-at-clause-told c).After-told_place-place in
    let place = placed-so (goal.at.returns-in_err-at-clause-told c).In_ok-planning in
    let told = verdict-so (goal.at.returns-in_err-at-clause-told c).After-guard-verdict in
    leaves (goes-out _ _ c.from_residual-in_err-at.ensures.1)
    ((written-so (goal.at.returns-in_err-at-clause-told c).In_ok-planning).3 ∙ turned-away rows words m t found place.1 told {r = c.in_err-at.field-0.0} (sym c.in_err-at.ensures))

-- the plan's words are there beside, and there is room for them
beside-fits : (c : In_ok-planning) → c.in_ok-planning.planning.words ≤ length c.plan_table.new.words
beside-fits c =
    let told = c.in_ok-planning.ensures.totalled in
    omega (arith, told.words, plan-fits told.table zeros (omega arith), ap length (written-so c).2)

lent-fits : (c : In_ok-planning) → c.in_ok-planning.planning.words ≤ length c.args.words.now
lent-fits c =
    let told = c.in_ok-planning.ensures.totalled in
    omega (arith, told.words, words-fit told.table, c.requires.1)

pub slice_bounds-beside-end : goal.slice_bounds-beside-end
slice_bounds-beside-end c = beside-fits (goal.at.slice_bounds-beside-end c).In_ok-planning

pub slice_bounds-plan-end : goal.slice_bounds-plan-end
slice_bounds-plan-end c = sym (length-take-le _ _ (beside-fits (goal.at.slice_bounds-plan-end c).In_ok-planning))

pub slice_bounds-copy_from_slice-end : goal.slice_bounds-copy_from_slice-end
slice_bounds-copy_from_slice-end c = lent-fits (goal.at.slice_bounds-copy_from_slice-end c).In_ok-planning

pub slice_bounds-copy_from_slice-end-2 : goal.slice_bounds-copy_from_slice-end-2
slice_bounds-copy_from_slice-end-2 c = sym (length-take-le _ _ (lent-fits (goal.at.slice_bounds-copy_from_slice-end-2 c).In_ok-planning))

pub copy_from_slice-requires : goal.copy_from_slice-requires
copy_from_slice-requires c =
    let planning = (goal.at.copy_from_slice-requires c).In_ok-planning in
    length-take-le _ _ (lent-fits planning) ∙ sym (length-take-le _ _ (beside-fits planning))

pub returns-clause-told : goal.returns-clause-told
returns-clause-told c =
    let words = c.args.words.now in
    let rows = c.args.asking.board.now.rows in
    let m = c.args.asking.cores in
    let t = costed c.args.table.now c.args.cost in
    let planned = c.in_ok-planning.ensures.totalled in
    let found = found-so (goal.at.returns-clause-told c).After-told_place-place in
    let planning = (goal.at.returns-clause-told c).In_ok-planning in
    let told = verdict-so (goal.at.returns-clause-told c).After-guard-verdict in
    let kept = kept_in rows words m t found (placed-so planning).1 told {at = c.in_ok-at.at} (sym c.in_ok-at.ensures) in
    let row = row-so (goal.at.returns-clause-told c).After-row_of-row in
    let copied =
    ap (λ (plan : List ℕ). plan ++ drop c.in_ok-planning.planning.words words) c.copy_from_slice.ensures.after
    ∙ ap₂ (λ (n : ℕ) (plan : List ℕ). take n plan ++ drop n words) planned.words (written-so planning).2
    ∙ plan-copied t zeros words in
    (λ i. record { change = Ok (record { at = kept.1 i; row = row i }); words = copied i })
    ∙ sym ((written-so planning).3 ∙ kept.0)

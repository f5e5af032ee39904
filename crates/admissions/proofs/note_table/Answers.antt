-- `admissions::note_table` meets its contract: what the two places tell is a refusal just where the board has no room for the row, planning hands
-- it on where the table has a plan, and the row read off the words just written is the task's.
use Rattle.std.proofs.Common.{◌≡◌, refl, sym, ap, ◌∙◌}
use Rattle.std.specs.Prelude.{Ok}
use Rattle.refusals.specs.Answer.{accepted, answered}
use Rattle.refusals.proofs.Out.{goes-out}
use Rattle.tables.specs.Cost.{costed}
use Rattle.plans.specs.Diagram.{segment_count}
use Rattle.plans.specs.Words.{word_count, written}
use Rattle.plans.specs.Calls.{on_table}
use Rattle.admissions.specs.Admission.{not_admitted, entered, row_of}
use Rattle.admissions.specs.Inner.PlanIn.{PlanIn}
use Rattle.admissions.proofs.Place.{found, later_of, later-refused, later-accepted}
use Rattle.admissions.proofs.Tests.{table-out, table-in, stays_out, goes_in}
use Rattle.admissions.proofs.note_table.Goals as goal
use Rattle.admissions.proofs.note_table.Goals.{After-told_place-place, After-from-later, In_ok-planning}

-- what the two places tell
found-so : (c : After-told_place-place) → c.told_place-place.result ≡ found c.args.board.now.rows (row_of (costed c.args.table.now c.args.cost))
found-so c = rw (c.place_of.ensures, c.place_of-2.ensures) at c.told_place-place.ensures

-- planning is told that
later-so : (c : After-from-later) → c.from-later.result ≡ later_of c.told_place-place.result
later-so c = c.from-later.ensures ∙ ap answered c.and.ensures

pub returns-in_err-planning-clause-told : goal.returns-in_err-planning-clause-told
returns-in_err-planning-clause-told c =
    let words = c.args.words.now in
    let rows = c.args.board.now.rows in
    let t = costed c.args.table.now c.args.cost in
    let found = found-so (goal.at.returns-in_err-planning-clause-told c).After-told_place-place in
    let later = later-so (goal.at.returns-in_err-planning-clause-told c).After-from-later in
    let planned = c.in_err-planning.ensures in
    let out = table-out words words t (entered rows words) c.from-later.result planned.words_after (λ n. stays_out rows words t (sym found ∙ later-refused c.told_place-place.result later n)) planned.refusing in
    let told = goes-out _ _ c.from_residual.ensures.1 in
    (λ i. record { change = told i; words = out.1 i }) ∙ sym out.0

-- where the table has a plan, its place was told, the words are written, and the task enters
written-so : (c : In_ok-planning) →
    (let words = c.args.words.now in let t = costed c.args.table.now c.args.cost in let enter = entered c.args.board.now.rows words in
    (c.from-later.result.refusal ≡ 0) × (accepted c.in_ok-planning.planning.words ≡ accepted (word_count (segment_count t) t.count)) × (c.plan_table.new.words ≡ written t words) × (on_table (not_admitted words) enter t ≡ enter t))
written-so c =
    let words = c.args.words.now in
    let planned = c.in_ok-planning.ensures in
    table-in words words (costed c.args.table.now c.args.cost) (entered c.args.board.now.rows words) c.from-later.result planned.words_after refl planned.totalled.table

pub returns-in_err-at-clause-told : goal.returns-in_err-at-clause-told
returns-in_err-at-clause-told c =
    let rows = c.args.board.now.rows in
    let row = row_of (costed c.args.table.now c.args.cost) in
    let found = found-so (goal.at.returns-in_err-at-clause-told c).After-told_place-place in
    let later = later-so (goal.at.returns-in_err-at-clause-told c).After-from-later in
    absurd (later-accepted rows row found later (written-so (goal.at.returns-in_err-at-clause-told c).In_ok-planning).0 c.in_err-at.was)

-- the plan stands in the words
plan-in : (c : In_ok-planning) → PlanIn (costed c.args.table.now c.args.cost) c.args.table.now.id c.args.table.now.count c.in_ok-planning.planning c.plan_table.new.words
plan-in c = record {
  totals = c.in_ok-planning.ensures.totalled;
  id = refl;
  count = refl;
  old = c.args.words.now;
  room = c.requires.1;
  plan = (written-so c).2;
}

pub row_of-row-requires : goal.row_of-row-requires
row_of-row-requires c = (costed c.args.table.now c.args.cost, plan-in (goal.at.row_of-row-requires c).In_ok-planning)

-- so the row is the task's
pub returns-clause-told : goal.returns-clause-told
returns-clause-told c =
    let words = c.args.words.now in
    let rows = c.args.board.now.rows in
    let t = costed c.args.table.now c.args.cost in
    let row = c.row_of-row.ensures t (plan-in (goal.at.returns-clause-told c).In_ok-planning) in
    let goes = goes_in rows words t (sym (found-so (goal.at.returns-clause-told c).After-told_place-place) ∙ c.in_ok-at.was) in
    let so = written-so (goal.at.returns-clause-told c).In_ok-planning in
    (λ i. record { change = Ok (record { at = c.in_ok-at.at; row = row i }); words = so.2 i }) ∙ sym (so.3 ∙ goes.0)

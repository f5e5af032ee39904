-- `admissions::noting` meets its contract: 26 and 16 first, then 17, then the reading's refusal, then the table that was read, which planning
-- can take.
use Rattle.std.proofs.Common.{◌≡◌, sym, ap, ◌∙◌, length}
use Rattle.std.specs.Prelude.{Ok, Err}
use Rattle.refusals.proofs.Out.{goes-out}
use Rattle.plain.proofs.Tests.{passed, failed}
use Rattle.plans.specs.Calls.{before_reading, on_task}
use Rattle.plans.proofs.Table.{read-plannable}
use Rattle.plans.proofs.Tests.{ready, task-out, task-table}
use Rattle.admissions.specs.Admission.{not_admitted, entered, noting}
use Rattle.admissions.proofs.Tests.{refused-first, unsound, sound, leaves}
use Rattle.admissions.proofs.noting.Goals as goal
use Rattle.admissions.proofs.noting.Goals.{In_ok-before_reading, After-read_table}

pub returns-in_err-before_reading-clause-told : goal.returns-in_err-before_reading-clause-told
returns-in_err-before_reading-clause-told c =
    let a = c.args in
    leaves (goes-out _ _ c.from_residual.ensures.1) (refused-first a.bytes.now a.words.now a.board.now.rows a.cost (sym c.in_err-before_reading.ensures))

first : (c : In_ok-before_reading) → before_reading (length c.args.words.now) c.args.cost ≡ Ok tt
first c = sym c.in_ok-before_reading.ensures

pub returns-then-not-is_sound-clause-told : goal.returns-then-not-is_sound-clause-told
returns-then-not-is_sound-clause-told c =
    let a = c.args in
    leaves (ap Err c.unsound.ensures) (unsound a.bytes.now a.words.now a.board.now.rows a.cost (first (goal.at.returns-then-not-is_sound-clause-told c).In_ok-before_reading) (failed c.is_sound.ensures c.if-not-is_sound.true))

-- the record's task goes on
going : (c : After-read_table) → (let a = c.args in noting a.bytes.now a.words.now a.board.now.rows a.cost ≡ on_task (not_admitted a.words.now) (entered a.board.now.rows a.words.now) a.bytes.now a.cost)
going c =
    let a = c.args in
    sound a.bytes.now a.words.now a.board.now.rows a.cost (first (goal.at-After-read_table c).In_ok-before_reading) (passed c.is_sound.ensures c.if-not-is_sound.false)

pub returns-in_err-table-clause-told : goal.returns-in_err-table-clause-told
returns-in_err-table-clause-told c =
    let a = c.args in
    leaves (goes-out _ _ c.from_residual-in_err-table.ensures.1)
    (going (goal.at.returns-in_err-table-clause-told c).After-read_table ∙ task-out (not_admitted a.words.now) (entered a.board.now.rows a.words.now) a.bytes.now a.cost c.in_err-table.ensures)

pub note_table-requires : goal.note_table-requires
note_table-requires c =
    let allowed = ready (length c.args.words.now) c.args.cost (first (goal.at.note_table-requires c).In_ok-before_reading) in
    (read-plannable c.args.bytes.now c.in_ok-table.ensures allowed.0, allowed.1)

pub returns-clause-told : goal.returns-clause-told
returns-clause-told c =
    let a = c.args in
    c.note_table.ensures.told ∙ sym (going (goal.at.returns-clause-told c).After-read_table ∙ task-table (not_admitted a.words.now) (entered a.board.now.rows a.words.now) a.bytes.now a.cost c.in_ok-table.ensures)

-- `guards::admission` meets its contract: the rules are tried in the definition's order, and where none refuses, the board is sound, the core count in its
-- range and the table one that planning can take.
use Rattle.std.proofs.Common.{◌≡◌, sym, ap₂, ◌∙◌, ℕ, length}
use Rattle.std.specs.Prelude.{Ok}
use Rattle.refusals.proofs.Out.{goes-out}
use Rattle.tables.specs.Cost.{costed}
use Rattle.plans.specs.Calls.{before_reading, on_table, on_task}
use Rattle.plans.proofs.Table.{read-plannable}
use Rattle.plans.proofs.Tests.{ready, task-out, task-table}
use Rattle.boards.specs.declared.Board.{Board}
use Rattle.boards.specs.Sound.{is_sound}
use Rattle.boards.specs.Change.{before_asking}
use Rattle.boards.proofs.Cases.{asks-where}
use Rattle.admissions.specs.Admission.{not_admitted}
use Rattle.admissions.proofs.Tests.{leaves}
use Rattle.guards.specs.Guarded.{guarded_entry, admission}
use Rattle.guards.proofs.Guarding.{refused-first, refused-asking, asked-for}
use Rattle.guards.proofs.admission.Goals as goal
use Rattle.guards.proofs.admission.Goals.{In_ok-before_reading, In_ok-asking}

pub returns-in_err-before_reading-clause-told : goal.returns-in_err-before_reading-clause-told
returns-in_err-before_reading-clause-told c =
    let a = c.args in
    leaves (goes-out _ _ c.from_residual.ensures.1) (refused-first a.bytes.now a.words.now a.board.now.rows a.cores a.cost (sym c.in_err-before_reading.ensures))

first : (c : In_ok-before_reading) → before_reading (length c.args.words.now) c.args.cost ≡ Ok tt
first c = sym c.in_ok-before_reading.ensures

pub returns-in_err-asking-clause-told : goal.returns-in_err-asking-clause-told
returns-in_err-asking-clause-told c =
    let a = c.args in
    leaves (goes-out _ _ c.from_residual-in_err-asking.ensures.1) (refused-asking a.bytes.now a.words.now a.board.now.rows a.cores a.cost (first (goal.at.returns-in_err-asking-clause-told c).In_ok-before_reading) c.in_err-asking.ensures)

-- the board is asked
asks : (c : In_ok-asking) → before_asking (is_sound c.args.board.now.rows) c.args.cores ≡ Ok tt
asks c =
    let asking = c.in_ok-asking.asking in
    let so = c.in_ok-asking.ensures in
    ap₂ (λ (b : Board) (m : ℕ). before_asking (is_sound b.rows) m) (sym so.0) (sym so.1) ∙ asks-where asking.board.now.rows asking.cores asking.sound asking.in_range

-- so the record's task goes on
going : (c : In_ok-asking) → (let a = c.args in admission a.bytes.now a.words.now a.board.now.rows a.cores a.cost ≡ on_task (not_admitted a.words.now) (guarded_entry a.board.now.rows a.words.now a.cores) a.bytes.now a.cost)
going c =
    let a = c.args in
    asked-for a.bytes.now a.words.now a.board.now.rows a.cores a.cost (first (goal.at-In_ok-asking c).In_ok-before_reading) (asks c)

pub returns-in_err-table-clause-told : goal.returns-in_err-table-clause-told
returns-in_err-table-clause-told c =
    let a = c.args in
    leaves (goes-out _ _ c.from_residual-in_err-table.ensures.1)
    (going (goal.at.returns-in_err-table-clause-told c).In_ok-asking ∙ task-out (not_admitted a.words.now) (guarded_entry a.board.now.rows a.words.now a.cores) a.bytes.now a.cost c.in_err-table.ensures)

pub admit_table-requires : goal.admit_table-requires
admit_table-requires c =
    let allowed = ready (length c.args.words.now) c.args.cost (first (goal.at.admit_table-requires c).In_ok-before_reading) in
    (read-plannable c.args.bytes.now c.in_ok-table.ensures allowed.0, allowed.1)

pub returns-clause-told : goal.returns-clause-told
returns-clause-told c =
    let a = c.args in
    let so = c.in_ok-asking.ensures in
    c.admit_table.ensures.told
    ∙ ap₂ (λ (b : Board) (m : ℕ). on_table (not_admitted a.words.now) (guarded_entry b.rows a.words.now m) (costed c.in_ok-table.table a.cost)) so.0 so.1
    ∙ sym (going (goal.at.returns-clause-told c).In_ok-asking ∙ task-table (not_admitted a.words.now) (guarded_entry a.board.now.rows a.words.now a.cores) a.bytes.now a.cost c.in_ok-table.ensures)

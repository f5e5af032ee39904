-- `sheets::put_record` meets its contract: the reading's refusal, or the table that was read.
use mathlib.Core.Path.{sym}
use native.Mathlib.Omega.{arith}
use Rattle.plans.proofs.Table.{read-plannable}
use Rattle.plans.proofs.Tests.{task-out, task-table}
use Rattle.sheets.specs.Lines.{refused_line}
use Rattle.sheets.specs.Printed.{table_sheet, sheet_cost}
use Rattle.sheets.proofs.Printing.{puts-same}
use Rattle.sheets.proofs.put_record.Goals as goal

pub put_table-requires-clause-plannable : goal.put_table-requires-clause-plannable
put_table-requires-clause-plannable c = read-plannable c.args.bytes.now c.in-Ok.ensures (omega arith)

pub returns-in-Ok : goal.returns-in-Ok
returns-in-Ok c = puts-same (sym (task-table refused_line table_sheet c.args.bytes.now sheet_cost c.in-Ok.ensures)) c.put_table.ensures

pub returns-in-Err : goal.returns-in-Err
returns-in-Err c = puts-same (sym (task-out refused_line table_sheet c.args.bytes.now sheet_cost c.in-Err.ensures)) c.put_refusal.ensures

-- `sheets::print` meets its contract: a small buffer first, then what `put` leaves of a page on the buffer.
use mathlib.Core.Path.{refl}
use native.Mathlib.Omega.{arith}
use Rattle.std.proofs.Common.{rules}
use Rattle.sheets.proofs.Printing.{prints, leaves}
use Rattle.sheets.proofs.print.Goals as goal

pub returns-then-out-lt-SHEET_MAX : goal.returns-then-out-lt-SHEET_MAX
returns-then-out-lt-SHEET_MAX g c text puts = leaves text (omega arith)

pub returns : goal.returns
returns g c text puts = let w = puts _ _ c.put.ensures in prints refl c.if-out-lt-SHEET_MAX.false w (search (rules, w.same))

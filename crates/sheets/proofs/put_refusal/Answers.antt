-- `sheets::put_refusal` meets its contract: the line fits.
use native.Mathlib.Omega.{arith}
use Rattle.sheets.proofs.Sizes.{refusal-fits}
use Rattle.sheets.proofs.put_refusal.Goals as goal

pub put_line-requires : goal.put_line-requires
put_line-requires c = record { fits = omega (arith, refusal-fits c.args.refusal) }

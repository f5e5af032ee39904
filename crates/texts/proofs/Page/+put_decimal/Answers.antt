-- `texts::Page::put_decimal` meets its contract: the last digit is written behind those of the tenth, where that isn't 0.
use native.Mathlib.Omega.{arith}
use Rattle.texts.proofs.Decimals.{decimal-one, decimal-more}
use Rattle.texts.proofs.Writes.{◌then◌, first-room, next-room}
use Rattle.texts.proofs.Page.+put_decimal.Goals as goal
use Rattle.texts.proofs.Page.+put_decimal.Goals.{then-tenth-gt0, else-tenth-gt0}

pub put_decimal-requires : goal.put_decimal-requires
put_decimal-requires t c =
    (omega arith, first-room _ (rw (decimal-more c.args.value (omega arith) c.ranges.value.fits) at c.requires))

pub put_byte-requires : goal.put_byte-requires
put_byte-requires t c = elim c.if-tenth-gt0.branch [
  | then-tenth-gt0 w ↦ rw w.self-is (next-room w.put_decimal.ensures (rw (decimal-more c.args.value (omega arith) c.ranges.value.fits) at c.requires))
  | else-tenth-gt0 w ↦ rw w.self-is (rw (decimal-one c.args.value (omega arith)) at c.requires)
]

pub returns : goal.returns
returns t c = elim c.if-tenth-gt0.branch [
  | then-tenth-gt0 w ↦ rw (decimal-more c.args.value (omega arith) c.ranges.value.fits) ((rw (← w.self-is) at w.put_decimal.ensures) then c.put_byte.ensures)
  | else-tenth-gt0 w ↦ rw (decimal-one c.args.value (omega arith)) (rw w.self-is at c.put_byte.ensures)
]

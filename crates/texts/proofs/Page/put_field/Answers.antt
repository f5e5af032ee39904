-- `texts::Page::put_field` meets its contract: the word, the decimal and the byte are three writes, each where the one before ends.
use native.Mathlib.Omega.{arith}
use Rattle.texts.specs.Lines.{field}
use Rattle.texts.proofs.Writes.{◌then◌, first-room, next-room}
use Rattle.texts.proofs.Page.put_field.Goals as goal

pub put_text-requires : goal.put_text-requires
unfolding field
put_text-requires c = first-room _ (first-room _ c.requires)

pub put_decimal-requires : goal.put_decimal-requires
unfolding field
put_decimal-requires c = next-room c.put_text.ensures (first-room _ c.requires)

pub put_byte-requires : goal.put_byte-requires
unfolding field
put_byte-requires c = let room = next-room (c.put_text.ensures then c.put_decimal.ensures) c.requires in record { fits = omega (arith, room.fits) }

pub returns : goal.returns
unfolding field
returns c = c.put_text.ensures then c.put_decimal.ensures then c.put_byte.ensures

-- `texts::Page::put_byte` meets its contract: one byte is set, and the end is past it.
use native.Mathlib.Omega.{arith}
use mathlib.Core.Path.{refl}
use Rattle.texts.proofs.Writes.{wrote-byte}
use Rattle.texts.proofs.Page.put_byte.Goals as goal

pub returns : goal.returns
returns c = record { wrote = wrote-byte _ _ _ (omega (arith, c.requires.fits)); same = refl }

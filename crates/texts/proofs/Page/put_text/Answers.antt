-- `texts::Page::put_text` meets its contract: the part of the buffer behind the end becomes the text, and the rest stays.
use mathlib.Core.Path.{refl}
use Rattle.texts.proofs.Writes.{wrote-text}
use Rattle.texts.proofs.Page.put_text.Goals as goal

pub returns : goal.returns
returns c = rw c.copy_from_slice.ensures.after record { wrote = wrote-text _ _ _ c.requires.fits; same = refl }

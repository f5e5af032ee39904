-- `texts::Page::put_decimal` calls itself with a tenth of its value.
use Rattle.texts.proofs.Page.+put_decimal.Given as goal

abbrev pub decreases-put_decimal : goal.decreases-put_decimal
decreases-put_decimal l = l.value

-- Each inner call is for one byte fewer.
use Rattle.numbers.proofs.+number_within.Given as goal

abbrev pub decreases-number_within : goal.decreases-number_within
decreases-number_within l = l.more

-- "told by number": what the answer of the trials says as a number.
use Rattle.std.specs.Prelude.{ℕ, Option, Some, None}
use Rattle.trials.specs.declared.Rule.{Rule}
use Rattle.trials.specs.declared.Rule.TheVariants.{OverFits, SameCut, SharedOut, Summed, Followed, Halved, Thinned, Rounded}

-- a rule's number, "in the order above, from 1"
abbrev pub number_of : Rule → ℕ
number_of OverFits = 1
number_of SameCut = 2
number_of SharedOut = 3
number_of Summed = 4
number_of Followed = 5
number_of Halved = 6
number_of Thinned = 7
number_of Rounded = 8

-- the number of the first broken rule; 0 where none is broken
abbrev pub told : Option Rule → ℕ
told None = 0
told (Some rule) = number_of rule

-- `shares::Times::is_heavy` meets its contract: the code is the definition's own test.
use mathlib.Core.Path.{refl}
use Rattle.shares.specs.Heavy.{is_heavy}
use Rattle.shares.proofs.Times.is_heavy.Goals as goal

pub returns : goal.returns
unfolding is_heavy
returns c = refl

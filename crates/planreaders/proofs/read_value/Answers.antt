-- `planreaders::read_value` meets its contract: what the number reader found in the part from `at` on is told as `step_of` says.
use mathlib.Core.Path.{◌∙◌}
use Rattle.records.proofs.Cases.{whole_is}
use Rattle.records.proofs.Inside.{found_inside}
use Rattle.planreaders.proofs.read_value.Goals as goal

pub step_of-requires : goal.step_of-requires
step_of-requires c = found_inside _ c.args.plan.now _ _ c.number_within.ensures c.requires

pub returns : goal.returns
returns c = c.step_of.ensures ∙ whole_is _ _ _ _ c.number_within.ensures

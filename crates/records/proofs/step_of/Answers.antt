-- `records::step_of` meets its contract: each arm is a case of `step_of`, and a number that was found ends inside the input.
use native.Mathlib.Omega.{arith}
use Rattle.records.proofs.step_of.Goals as goal

pub overflow_add-result : goal.overflow_add-result
overflow_add-result c = omega (arith, c.requires _ _ c.in-Ok.is)

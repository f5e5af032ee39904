-- `tables::all_zero` meets its contract: each of the first n is 0 exactly where the greatest of them is.
use Rattle.std.proofs.Common.{◌≡◌, ◌↔◌, IsTrue, All, take}
use Rattle.std.proofs.lemmas.Grind.{common_steps}
use native.Mathlib.Omega.{arith}
use Rattle.tables.proofs.Runs.{front-zero}
use Rattle.tables.proofs.all_zero.Goals as goal

pub returns : goal.returns
returns c =
    let told : IsTrue c.all.result ↔ All (λ x. x ≡ 0) (take c.args.n c.args.executions.now) = grind (arith, common_steps) in
    front-zero _ _ _ c.requires told.0 told.1

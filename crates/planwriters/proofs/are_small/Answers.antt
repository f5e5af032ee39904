-- `planwriters::are_small` meets its contract: the chain asks each value, which is each place of the list.
use Prim.Native.Nat.{◌<◌}
use Rattle.std.proofs.Common.{rules}
use Rattle.std.specs.Prelude.{◌↔◌, IsTrue, EachIndex}
use Rattle.plain.specs.At.{at}
use Rattle.planwriters.specs.Writing.{value_limit}
use Rattle.planwriters.proofs.Small.{small-told}
use Rattle.planwriters.proofs.are_small.Goals as goal

pub returns : goal.returns
returns c =
    let told : IsTrue c.all.result ↔ EachIndex c.args.values.now (λ k. at c.args.values.now k < value_limit) = search rules in
    small-told c.args.values.now c.all.result told

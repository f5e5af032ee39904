-- `numbers::before` meets its contract: the rest was read, so its bounds leave room for one group more.
use Rattle.std.proofs.Common.{◌≡◌, Err, sym, ap, ◌∙◌}
use Rattle.numbers.specs.declared.Fault.TheVariants.{NotShortest}
use Rattle.numbers.proofs.Bounds.{value-bounded, padded-bounded, room}
use Rattle.numbers.proofs.before.Goals as goal

pub joined-requires : goal.joined-requires
joined-requires c = let p = c.requires in room p.3 (value-bounded _ _ _ _ (sym p.2 ∙ c.in-Ok.is))

pub joined-requires-in-Ok-2 : goal.joined-requires-in-Ok-2
joined-requires-in-Ok-2 c = let p = c.requires in room p.3 (value-bounded _ _ _ _ (sym p.2 ∙ c.in-Ok-2.is))

pub joined-requires-in-Err-NotShortest : goal.joined-requires-in-Err-NotShortest
joined-requires-in-Err-NotShortest c =
    let p = c.requires in
    let e : c.in-Err-NotShortest.field-0 ≡ NotShortest c.in-Err-NotShortest.number = rw c.in-Err-NotShortest.is at c.in-Err-NotShortest.field-0-is in
    room p.3 (padded-bounded _ _ _ _ (sym p.2 ∙ c.in-Err-NotShortest.is ∙ ap Err e))

-- `planwriters::write_values` meets its contract. The loop's invariant: the values passed are written.
use Rattle.numbers.specs.Number.{plan_more}
use Rattle.numbers.proofs.Written.{wrote_none}
use Rattle.planwriters.proofs.Values.{room_next, wrote-next}
use Rattle.planwriters.proofs.write_values.Goals as goal

pub loop-value-init : goal.loop-value-init
loop-value-init c = wrote_none plan_more _ _

pub write_number-at-requires : goal.write_number-at-requires
write_number-at-requires c = room_next c.args.values.now c.loop-value.value-index c.loop-value-test.true c.loop-value.invariant (c.requires.0.each c.loop-value.value-index) c.requires.1

pub loop-value-preserved : goal.loop-value-preserved
loop-value-preserved c = wrote-next c.args.values.now c.loop-value.value-index c.loop-value-test.true c.loop-value.invariant (c.requires.0.each c.loop-value.value-index) c.write_number-at.ensures.value c.write_number-at.ensures.bytes_after

use Rattle.std.proofs.Common.{arith}
use Rattle.session_slots.proofs.ValueWires.{next_givers}
use Rattle.session_slots.proofs.wiring.owners_by_wire.Goals as goal

pub loop-value-preserved : goal.loop-value-preserved
loop-value-preserved c =
    next_givers c.args.inputs.now c.loop-value.value-index _ c.loop-value.list.items _ c.giver.result (omega (arith, c.loop-value-test.true, c.loop-value.auto.value-index-end)) c.giver.ensures c.in_ok-push_copies.ensures c.loop-value.invariant

use Rattle.std.proofs.Common.{[], sym, ◌∙◌, length, arith}
use Rattle.share_world.specs.Worlds.{World}
use Rattle.tape_map.specs.MapFaults.{input_checks}
use Rattle.list_laws.proofs.FirstFaults.{joined-stops, joined_more-passed}
use Rattle.tape_map.proofs.inputs.input_fault.Goals as goal

pub returns-in-Some : goal.returns-in-Some
returns-in-Some c tapes =
    let w : World = record { plan = c.args.plan.now; inputs = c.args.inputs.now; tapes = tapes } in
    sym (joined-stops (length c.args.plan.now.sessions) c.loop-s.s (input_checks w c.args.other.now c.args.group.mask) c.in-Some.fault
    (omega (arith, c.loop-s-test.true, c.sessions-s-end.ensures)) c.loop-s.invariant (sym (c.in_ok-fault.ensures tapes) ∙ c.in-Some.is))

pub loop-s-preserved : goal.loop-s-preserved
loop-s-preserved c =
    let w : World = record { plan = c.args.plan.now; inputs = c.args.inputs.now; tapes = [] } in
    joined_more-passed c.loop-s.s (input_checks w c.args.other.now c.args.group.mask) c.loop-s.invariant (sym (c.in_ok-fault.ensures []) ∙ c.in_default.is)

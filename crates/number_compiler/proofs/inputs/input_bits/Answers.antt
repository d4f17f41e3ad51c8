use Rattle.std.proofs.Common.{◌-◌, arith}
use Rattle.number_compiler.specs.Circuits.{input_bits}
use Rattle.number_compiler.proofs.InputSteps.{inputs_more, inputs_all}
use Rattle.number_compiler.proofs.inputs.input_bits.Goals as goal

pub loop-wire-preserved : goal.loop-wire-preserved
loop-wire-preserved c =
    inputs_more c.loop-wire.wire c.args.end (input_bits c.args.first (c.args.end - c.args.first)) c.loop-wire.bits.items c.push.new.self.items (omega (arith, c.loop-wire-test.true)) c.loop-wire.invariant c.in_ok-push.ensures.items

pub returns : goal.returns
returns c = inputs_all c.loop-wire.wire c.args.end (input_bits c.args.first (c.args.end - c.args.first)) c.loop-wire.bits.items (omega (arith, c.loop-wire-test.false)) c.loop-wire.invariant

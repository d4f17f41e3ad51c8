use Rattle.std.proofs.Common.{ap}
use Rattle.expr_circuit.specs.declared.wire.Wire.TheVariants as wires
use Rattle.expr_circuit.proofs.DraftSteps.{input_becomes, input_fails}
use Rattle.expr_circuit.proofs.draft.Draft.input.Goals as goal

pub returns-in-Ok : goal.returns-in-Ok
returns-in-Ok c = λ d keeps.
    input_becomes d c.args.line c.args.name.now (wires.Input c.inputs.result) c.bind.new.self c.args.self.now.gates c.input.new.self c.bind.result c.input.result (ap wires.Input c.inputs.ensures) keeps.1 c.in-Ok.is (c.bind.ensures d.of keeps.0) c.input.ensures

pub returns-in-Err : goal.returns-in-Err
returns-in-Err c = λ d keeps.
    input_fails d c.args.line c.args.name.now (wires.Input c.inputs.result) c.bind.new.self c.args.self.now.gates c.bind.result c.in-Err.fault (ap wires.Input c.inputs.ensures) keeps.1 c.in-Err.is (c.bind.ensures d.of keeps.0)

use Rattle.std.proofs.Common.{◌^◌}
use Rattle.expr_circuit.proofs.DraftSteps.{output_becomes, output_fails}
use Rattle.expr_circuit.proofs.draft.Draft.output.Goals as goal

pub returns-in-Ok : goal.returns-in-Ok
returns-in-Ok c = λ d keeps.
    output_becomes (2 ^ c.args.line.now.ring) d c.args.line.now.number c.args.line.now.text.now c.args.elements.now c.in-Ok.wire c.args.self.now.names c.expression.new.self c.output.new.self c.expression.result c.output.result c.in-Ok.is keeps.0 (c.expression.ensures d keeps.0 keeps.1) (λ e is. c.output.ensures e is)

pub returns-in-Err : goal.returns-in-Err
returns-in-Err c = λ d keeps.
    output_fails (2 ^ c.args.line.now.ring) d c.args.line.now.number c.args.line.now.text.now c.args.elements.now c.expression.new.self c.expression.result c.in-Err.fault c.in-Err.is (c.expression.ensures d keeps.0 keeps.1)

use Rattle.std.proofs.Common.{◌^◌}
use Rattle.expr_circuit.proofs.DraftSteps.{define_becomes, define_fails}
use Rattle.expr_circuit.proofs.draft.Draft.define.Goals as goal

pub returns-in-Ok : goal.returns-in-Ok
returns-in-Ok c = λ d keeps.
    define_becomes (2 ^ c.args.line.now.ring) d c.args.line.now.number c.args.line.now.text.now c.args.name.now c.args.elements.now c.in-Ok.wire c.bind.new.self c.expression.new.self c.expression.result c.bind.result c.in-Ok.is (c.expression.ensures d keeps.0 keeps.1) (c.bind.ensures d.of keeps.0)

pub returns-in-Err : goal.returns-in-Err
returns-in-Err c = λ d keeps.
    define_fails (2 ^ c.args.line.now.ring) d c.args.line.now.number c.args.line.now.text.now c.args.name.now c.args.elements.now c.expression.new.self c.expression.result c.in-Err.fault c.in-Err.is (c.expression.ensures d keeps.0 keeps.1)

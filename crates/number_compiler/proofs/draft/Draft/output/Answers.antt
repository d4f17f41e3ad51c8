use Rattle.std.proofs.Common.{sym, subst}
use Rattle.number_gates.specs.Steps.{Kept}
use Rattle.number_compiler.specs.Moves.{Expresses}
use Rattle.number_compiler.proofs.DraftSteps.{output_takes, output_fails}
use Rattle.number_compiler.proofs.draft.Draft.output.Goals as goal

pub returns-in_ok-keep_output-in-Ok : goal.returns-in_ok-keep_output-in-Ok
returns-in_ok-keep_output-in-Ok c = λ d e keeps is.
    output_takes d c.args.line.now.text.now c.args.line.now.number e c.args.elements.now c.args.self.now c.keep_output.new.self c.in-Ok.number c.expression.result tt is c.in-Ok.is
    (subst (λ (k : Kept). Expresses d.of c.args.line.now.text.now c.args.line.now.number c.args.elements.now c.args.self.now.gates c.expression.result k) (sym c.keep_output.ensures.gates) (c.expression.ensures d.of keeps.names))
    (c.in_ok-keep_output-in-Ok.ensures.keeps d (record { names = keeps.names; wires = keeps.wires; inputs = keeps.inputs; outputs = keeps.outputs; bits = keeps.bits }))

pub returns-in-Err : goal.returns-in-Err
returns-in-Err c = λ d e keeps is.
    output_fails d c.args.line.now.text.now c.args.line.now.number e c.args.elements.now c.args.self.now _ c.expression.new.gates c.in-Err.fault c.expression.result is c.in-Err.is (c.expression.ensures d.of keeps.names)

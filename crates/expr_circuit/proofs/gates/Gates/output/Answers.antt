use Rattle.std.proofs.Common.{◌+◌, ◌∙◌, ap}
use Rattle.expr_circuit.specs.Kept.{Kept}
use Rattle.expr_circuit.proofs.GateSteps.{output_added}
use Rattle.expr_circuit.proofs.gates.Gates.output.Goals as goal

pub returns : goal.returns
returns c = λ d is.
    output_added d c.args.wire c.args.self.now c.keep_output.new.self _ is c.in_ok-keep_output.ensures
    (ap (λ (k : Kept). record k { results = c.in_ok-self-inside.field-0 }) c.self.view_is
    ∙ ap (λ g. record c.keep_output.new.self { results = g }) (c.in_ok-self-inside.ensures ∙ ap (λ (k : Kept). k.results + 1) c.self.view_is))

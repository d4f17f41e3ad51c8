use Rattle.std.proofs.Common.{◌+◌, ◌∙◌, ap}
use Rattle.expr_circuit.specs.declared.wire.Wire.TheVariants as wires
use Rattle.expr_circuit.specs.Kept.{Kept}
use Rattle.expr_circuit.proofs.GateSteps.{gate_added}
use Rattle.expr_circuit.proofs.gates.Gates.gate.Goals as goal

pub returns : goal.returns
returns c = λ d is. (
  ap wires.Gate (ap (λ (k : Kept). k.gates) c.self.view_is ∙ ap (λ (k : Kept). k.gates) is),
  gate_added d c.args.gate c.args.self.now c.keep.new.self _ is c.in_ok-keep.ensures
      (ap (λ (k : Kept). record k { gates = c.in_ok-self-inside.field-0 }) c.self-2.view_is
      ∙ ap (λ g. record c.keep.new.self { gates = g }) (c.in_ok-self-inside.ensures ∙ ap (λ (k : Kept). k.gates + 1) c.self-2.view_is)),
)

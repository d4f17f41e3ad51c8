use Rattle.std.proofs.Common.{◌^◌, Ok, refl, sym, ◌∙◌, ap, drop}
use Rattle.circuit_model.specs.declared.gate.Operation.TheVariants.{Neg, Eq}
use Rattle.expr_circuit.specs.Circuits.{add, no_wire}
use Rattle.expr_circuit.specs.Walks.{top, operator, element_in}
use Rattle.expr_circuit.proofs.GateSteps.{built_wires, number_element}
use Rattle.expr_circuit.proofs.gates.Gates.wire.Goals as goal

pub returns-in-Some-number_at : goal.returns-in-Some-number_at
returns-in-Some-number_at c = λ d names is.
    built_wires d (add d.gates Eq no_wire no_wire c.in-Some-number_at.constant) c.constant.result c.constant.new.self c.args.wires.now c.args.wires.now _ refl
    (number_element (2 ^ c.args.line.now.ring) d.of c.args.line.now.number c.args.line.now.text.now c.in-Number.at c.in-Some-number_at.constant c.args.element (record { gates = d.gates; wires = c.args.wires.now }) c.number_at.result c.in-Number.is c.number_at.ensures c.in-Some-number_at.is)
    (c.constant.ensures d is)

pub returns-in-Prefix : goal.returns-in-Prefix
returns-in-Prefix c = λ d names is.
    built_wires d (add d.gates Neg (top c.args.wires.now) no_wire 0) c.negate.result c.negate.new.self c.negate.new.wires (drop 1 c.args.wires.now) _ c.negate.ensures.rest
    (ap (λ x. element_in (2 ^ c.args.line.now.ring) d.of c.args.line.now.number c.args.line.now.text.now x (record { gates = d.gates; wires = c.args.wires.now })) c.in-Prefix.is) (c.negate.ensures.built d is)

pub returns-in-Infix : goal.returns-in-Infix
returns-in-Infix c = λ d names is.
    built_wires d (add d.gates c.operation_of.result (top (drop 1 c.args.wires.now)) (top c.args.wires.now) 0) c.operator.result c.operator.new.self c.operator.new.wires (drop 2 c.args.wires.now) _ c.operator.ensures.rest
    (ap (λ x. element_in (2 ^ c.args.line.now.ring) d.of c.args.line.now.number c.args.line.now.text.now x (record { gates = d.gates; wires = c.args.wires.now })) c.in-Infix.is
    ∙ ap (λ o. Ok (operator (record { gates = d.gates; wires = c.args.wires.now }) o)) (sym c.operation_of.ensures)) (c.operator.ensures.built d is)

use Rattle.std.proofs.Common.{◌^◌, [], refl, ◌∙◌, ap, arith}
use Rattle.expr_circuit.specs.Walks.{top}
use Rattle.expr_circuit.proofs.GateSteps.{element_moves, element_stops, elements_done}
use Rattle.expr_circuit.proofs.gates.Gates.expression.Goals as goal

pub loop-element-init : goal.loop-element-init
loop-element-init c = λ d names is. (record { gates = d.gates; wires = [] }, refl, is, c.clear.ensures)

pub returns-in-Err : goal.returns-in-Err
returns-in-Err c = λ d names is.
    let inv = c.loop-element.invariant d names is in
    element_stops (2 ^ c.args.line.now.ring) d c.args.line.now.number c.args.line.now.text.now c.args.elements.now c.loop-element.element-index _ inv.0 c.element.new.self c.loop-element.wires c.element.new.wires c.element.result c.in-Err.fault c.loop-element-test.true inv.1 inv.3 c.in-Err.is
    (c.element.ensures (record d { gates = inv.0.gates }) names inv.2)

pub loop-element-preserved : goal.loop-element-preserved
loop-element-preserved c = λ d names is.
    let inv = c.loop-element.invariant d names is in
    element_moves (2 ^ c.args.line.now.ring) d c.args.line.now.number c.args.line.now.text.now c.args.elements.now c.loop-element.element-index _ inv.0 c.element.new.self c.loop-element.wires c.element.new.wires c.element.result c.loop-element-test.true inv.1 inv.3 c.in-Ok.is
    (c.element.ensures (record d { gates = inv.0.gates }) names inv.2)

pub returns : goal.returns
returns c = λ d names is.
    let inv = c.loop-element.invariant d names is in (
      record { gates = inv.0.gates; wire = top inv.0.wires },
      elements_done (2 ^ c.args.line.now.ring) d c.args.line.now.number c.args.line.now.text.now c.args.elements.now c.loop-element.element-index inv.0 (omega (arith, c.loop-element-test.false)) inv.1,
      c.pop.ensures.is ∙ ap top inv.3,
      inv.2,
    )

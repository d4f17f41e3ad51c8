use Rattle.std.proofs.Common.{◌≡◌, ◌^◌, [], drop}
use Rattle.expr_circuit.specs.Circuits.{Draft}
use Rattle.expr_circuit.specs.Walks.{Walk, elements_in}
use Rattle.expr_circuit.specs.Kept.{kept}
use Rattle.expr_circuit.specs.Named.{AreNames}
use Rattle.expr_circuit.proofs.gates.Gates.expression.Given as goal

abbrev pub invariant-loop-element : goal.invariant-loop-element
invariant-loop-element l =
    (d : Draft) → AreNames l.names d.of → l.fn.self ≡ kept d → (w : Walk)
    × (elements_in (2 ^ l.line.ring) d.of l.line.number l.line.text.now l.elements (record { gates = d.gates; wires = [] }) ≡ elements_in (2 ^ l.line.ring) d.of l.line.number l.line.text.now (drop l.element-index l.elements) w)
    × (l.self ≡ kept (record d { gates = w.gates })) × (l.wires ≡ w.wires)

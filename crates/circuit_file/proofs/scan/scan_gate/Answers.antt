use Rattle.std.proofs.Common.{◌+◌, arith, sym, subst}
use Rattle.circuit_file.specs.Steps.{IsFirstGate}
use Rattle.circuit_file.proofs.GateScans.{takes_one, scanned}
use Rattle.circuit_file.proofs.scan.scan_gate.Goals as goal

pub returns : goal.returns
returns c =
    subst (λ rows. IsFirstGate c.args.layout rows (record { line = c.line-line.result; form = record { operation = c.in_ok-operation.operation; inputs = c.in_ok-inputs.inputs; wires = c.in_ok-inputs.inputs + c.in_ok-outputs.outputs }; wires = c.in_ok-wires.wires }) c.in_ok-lines.field-0)
    c.cursor-cursor.ensures
    (scanned c.args.layout c.cursor-cursor.result c.number.new.self c.number-2.new.self c.take_wires.new.cursor c.token.new.self c.in_ok-lines.field-0 c.line-line.result c.in_ok-inputs.inputs c.in_ok-outputs.outputs c.in_ok-wires.wires
    c.in_ok-token.field-0.now c.in_ok-operation.operation c.line-line.ensures
    (takes_one c.cursor-cursor.result c.number.new.self c.in_ok-inputs.inputs c.in_ok-inputs.ensures.number c.in_ok-inputs.ensures.taken)
    (takes_one c.number.new.self c.number-2.new.self c.in_ok-outputs.outputs c.in_ok-outputs.ensures.number c.in_ok-outputs.ensures.taken)
    c.in_ok-wires.ensures.taken c.in_ok-token.ensures c.in_ok-lines.ensures.0 c.in_ok-lines.ensures.1 c.in_ok-operation.ensures (omega arith) (sym c.in_ok-wires.ensures.long))

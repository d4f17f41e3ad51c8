use Rattle.std.proofs.Common.{subst}
use Rattle.circuit_file.specs.Steps.{AddsNext}
use Rattle.circuit_file.proofs.GateScans.{added_next}
use Rattle.circuit_file.proofs.file.next_gate.Goals as goal

pub returns-in-Some : goal.returns-in-Some
returns-in-Some c = added_next c.args.layout c.args.seen c.args.lines.now c.scan_gate.new.lines c.in-Some.parsed c.args.builder.now c.add_gate.new.builder c.add_gate.result c.in-Some.ensures c.add_gate.ensures

pub returns-in-None : goal.returns-in-None
returns-in-None c =
    subst (λ rows. AddsNext c.args.layout c.args.seen rows c.args.builder.now c.other_gate.result c.other_gate.new.lines c.other_gate.new.builder) c.in-None.ensures c.other_gate.ensures

use Rattle.std.proofs.Common.{◌≡◌, Err, sym, ◌∙◌, ap}
use Rattle.circuit_model.specs.declared.fault.CircuitFault.TheVariants.{ExtraLine}
use Rattle.circuit_model.specs.Checks.{Gives}
use Rattle.circuit_file.specs.CircuitFiles.{ended, header_in, gates_in, lines_in}
use Rattle.circuit_file.proofs.ReaderSteps.{sent, fails_so, gives_fault, gives_same, lines_fail, lines_stop, lines_done, line_left, finished}
use Rattle.circuit_file.proofs.file.read_lines.Goals as goal

pub returns-in_err-gates : goal.returns-in_err-gates
returns-in_err-gates c =
    sent (λ r. Gives r (lines_in c.args.layout c.args.ring c.args.lines)) c.from_residual.result c.in_err-gates.field-0.0 c.from_residual.ensures
    (gives_fault c.in_err-gates.field-0.0 (lines_in c.args.layout c.args.ring c.args.lines)
    (fails_so c.in_err-gates.field-0.0 (header_in c.args.ring c.args.lines) (lines_in c.args.layout c.args.ring c.args.lines) c.in_err-gates.ensures (lines_fail c.args.layout c.args.ring c.args.lines c.in_err-gates.field-0.0)))

pub returns-in_err-read_gates : goal.returns-in_err-read_gates
returns-in_err-read_gates c =
    sent (λ r. Gives r (lines_in c.args.layout c.args.ring c.args.lines)) c.from_residual-in_err-read_gates.result c.in_err-read_gates.field-0.0 c.from_residual-in_err-read_gates.ensures
    (gives_fault c.in_err-read_gates.field-0.0 (lines_in c.args.layout c.args.ring c.args.lines)
    (fails_so c.in_err-read_gates.field-0.0 (gates_in c.args.layout c.in_ok-gates.gates 3 c.in_ok-gates.builder.circuit c.read_header.new.lines) (lines_in c.args.layout c.args.ring c.args.lines) c.in_err-read_gates.ensures
    (lines_stop c.args.layout c.args.ring c.in_ok-gates.gates c.args.lines c.read_header.new.lines c.in_ok-gates.builder.circuit c.in_err-read_gates.field-0.0 c.in_ok-gates.ensures.0)))

pub returns-in-Some : goal.returns-in-Some
returns-in-Some c =
    let done : lines_in c.args.layout c.args.ring c.args.lines ≡ ended c.read_gates.new.builder.circuit c.read_gates.new.lines =
    lines_done c.args.layout c.args.ring c.in_ok-gates.gates c.args.lines c.read_header.new.lines c.read_gates.new.lines c.in_ok-gates.builder.circuit c.read_gates.new.builder.circuit c.in_ok-gates.ensures.0 c.in_ok-read_gates.ensures.0 in
    ap (λ n. Err (ExtraLine n)) c.number.ensures ∙ sym (done ∙ line_left c.read_gates.new.builder.circuit c.read_gates.new.lines c.next_line.new.self c.in-Some.row c.in-Some.ensures)

pub returns-in-None : goal.returns-in-None
returns-in-None c =
    let done : lines_in c.args.layout c.args.ring c.args.lines ≡ ended c.read_gates.new.builder.circuit c.read_gates.new.lines =
    lines_done c.args.layout c.args.ring c.in_ok-gates.gates c.args.lines c.read_header.new.lines c.read_gates.new.lines c.in_ok-gates.builder.circuit c.read_gates.new.builder.circuit c.in_ok-gates.ensures.0 c.in_ok-read_gates.ensures.0 in
    gives_same c.finish.result (lines_in c.args.layout c.args.ring c.args.lines)
    (finished c.read_gates.new.builder c.finish.result c.finish.ensures c.in_ok-read_gates.ensures.1 ∙ ap (ended c.read_gates.new.builder.circuit) (sym c.in-None.ensures.0) ∙ sym done)

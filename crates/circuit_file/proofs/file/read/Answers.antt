use Rattle.std.proofs.Common.{◌≡◌, Err, ◌∙◌, ap}
use Rattle.gate_lines.specs.Rows.{rows_of}
use Rattle.circuit_model.specs.Checks.{Gives}
use Rattle.circuit_file.specs.CircuitFiles.{lines_in, circuit_in}
use Rattle.circuit_file.proofs.ReaderSteps.{sent, fails, gives_fault, gives_along, ring_stops, ring_passes, text_refused, text_read}
use Rattle.circuit_file.proofs.file.read.Goals as goal

pub returns-in_err-check_ring : goal.returns-in_err-check_ring
returns-in_err-check_ring c =
    sent (λ r. Gives r (circuit_in c.args.layout c.args.ring c.args.bytes.now)) c.from_residual.result c.in_err-check_ring.field-0.0 c.from_residual.ensures
    (gives_fault c.in_err-check_ring.field-0.0 (circuit_in c.args.layout c.args.ring c.args.bytes.now) (fails c.in_err-check_ring.field-0.0 (circuit_in c.args.layout c.args.ring c.args.bytes.now)
    (ring_stops c.args.layout c.args.ring c.args.bytes.now c.in_err-check_ring.field-0.0 c.in_err-check_ring.ensures)))

pub returns-in-Err : goal.returns-in-Err
returns-in-Err c =
    let fine = ring_passes c.args.layout c.args.ring c.in_ok-check_ring.field-0 c.in_ok-check_ring.ensures in
    gives_fault c.in-Err.fault (circuit_in c.args.layout c.args.ring c.args.bytes.now) (fails c.in-Err.fault (circuit_in c.args.layout c.args.ring c.args.bytes.now)
    (ap Err c.in-Err.ensures.text ∙ text_refused c.args.layout c.args.ring c.args.bytes.now fine c.in-Err.ensures.cause))

pub returns-in-Ok : goal.returns-in-Ok
returns-in-Ok c =
    let fine = ring_passes c.args.layout c.args.ring c.in_ok-check_ring.field-0 c.in_ok-check_ring.ensures in
    let rows : c.new.result ≡ rows_of c.args.bytes.now = c.new.ensures ∙ ap rows_of c.in-Ok.ensures.text in
    let wanted : lines_in c.args.layout c.args.ring c.new.result ≡ circuit_in c.args.layout c.args.ring c.args.bytes.now =
    ap (lines_in c.args.layout c.args.ring) rows ∙ text_read c.args.layout c.args.ring c.args.bytes.now fine c.in-Ok.ensures.cause in
    gives_along c.read_lines.result (lines_in c.args.layout c.args.ring c.new.result) (circuit_in c.args.layout c.args.ring c.args.bytes.now) wanted c.read_lines.ensures

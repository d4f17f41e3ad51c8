use Rattle.std.proofs.Common.{◌≡◌, ◌∷◌, suc, refl, sym}
use Rattle.circuit_file.specs.CircuitFiles.{gates_in}
use Rattle.circuit_file.specs.Steps.{IsFirstGate, AddsNext}
use Rattle.circuit_file.proofs.FileLaws.{row_next}
use Rattle.circuit_file.proofs.ReaderSteps.{sent, fails, lines_end, gate_stops}
use Rattle.circuit_file.proofs.GateScans.{added_next}
use Rattle.circuit_file.proofs.file.other_gate.Goals as goal

pub returns-in_err-row : goal.returns-in_err-row
returns-in_err-row c =
    sent (λ r. AddsNext c.args.layout c.args.seen c.args.lines.now c.args.builder.now r c.next_row.new.lines c.args.builder.now) c.from_residual.result c.in_err-row.field-0.0 c.from_residual.ensures
    (λ n. fails c.in_err-row.field-0.0 (gates_in c.args.layout (suc n) c.args.seen c.args.builder.now.circuit c.args.lines.now)
    (lines_end c.args.layout (suc n) n c.args.seen c.args.builder.now.circuit c.args.lines.now c.in_err-row.field-0.0 refl c.in_err-row.ensures))

pub returns-in_err-parsed : goal.returns-in_err-parsed
returns-in_err-parsed c =
    let first : c.args.lines.now ≡ c.in_ok-row.row ∷ c.next_row.new.lines = row_next c.args.seen c.args.lines.now _ c.in_ok-row.ensures in
    sent (λ r. AddsNext c.args.layout c.args.seen c.args.lines.now c.args.builder.now r c.next_row.new.lines c.args.builder.now) c.from_residual-in_err-parsed.result c.in_err-parsed.field-0.0 c.from_residual-in_err-parsed.ensures
    (λ n. fails c.in_err-parsed.field-0.0 (gates_in c.args.layout (suc n) c.args.seen c.args.builder.now.circuit c.args.lines.now)
    (gate_stops c.args.layout (suc n) n c.args.seen c.args.builder.now.circuit c.args.lines.now c.next_row.new.lines c.in_ok-row.row c.in_err-parsed.field-0.0 refl first (sym (c.in_err-parsed.ensures c.args.builder.now.circuit))))

pub returns : goal.returns
returns c =
    let first : c.args.lines.now ≡ c.in_ok-row.row ∷ c.next_row.new.lines = row_next c.args.seen c.args.lines.now _ c.in_ok-row.ensures in
    let says : IsFirstGate c.args.layout c.args.lines.now c.in_ok-parsed.parsed c.next_row.new.lines = record { row = c.in_ok-row.row; first = first; is = c.in_ok-parsed.ensures } in
    added_next c.args.layout c.args.seen c.args.lines.now c.next_row.new.lines c.in_ok-parsed.parsed c.args.builder.now c.add_gate.new.builder c.add_gate.result says c.add_gate.ensures

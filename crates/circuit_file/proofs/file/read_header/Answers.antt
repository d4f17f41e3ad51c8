use Rattle.std.proofs.Common.{◌≡◌, [], ◌∷◌, ap, ◌∙◌}
use Rattle.circuit_file.specs.Header.{widths_in}
use Rattle.circuit_file.specs.CircuitFiles.{header_in}
use Rattle.circuit_file.specs.Steps.{Begins}
use Rattle.circuit_file.proofs.FileLaws.{row_next}
use Rattle.circuit_file.proofs.ReaderSteps.{sent, fails, fails_so, few_1, bad_1, few_2, bad_2, few_3, bad_3, start_fails, begun}
use Rattle.circuit_file.proofs.file.read_header.Goals as goal

pub returns-in_err-one : goal.returns-in_err-one
returns-in_err-one c =
    sent (λ r. Begins c.args.ring c.args.lines.now r c.next_row.new.lines) c.from_residual.result c.in_err-one.field-0.0 c.from_residual.ensures
    (fails c.in_err-one.field-0.0 (header_in c.args.ring c.args.lines.now) (few_1 c.args.ring c.args.lines.now c.in_err-one.field-0.0 c.in_err-one.ensures))

pub returns-in_err-counts : goal.returns-in_err-counts
returns-in_err-counts c =
    let one : c.args.lines.now ≡ c.in_ok-one.one ∷ c.next_row.new.lines = row_next 0 c.args.lines.now _ c.in_ok-one.ensures in
    sent (λ r. Begins c.args.ring c.args.lines.now r c.next_row.new.lines) c.from_residual-in_err-counts.result c.in_err-counts.field-0.0 c.from_residual-in_err-counts.ensures
    (fails c.in_err-counts.field-0.0 (header_in c.args.ring c.args.lines.now) (bad_1 c.args.ring c.args.lines.now _ _ c.in_err-counts.field-0.0 one c.in_err-counts.ensures))

pub returns-in_err-two : goal.returns-in_err-two
returns-in_err-two c =
    let one : c.args.lines.now ≡ c.in_ok-one.one ∷ c.next_row.new.lines = row_next 0 c.args.lines.now _ c.in_ok-one.ensures in
    sent (λ r. Begins c.args.ring c.args.lines.now r c.next_row-2.new.lines) c.from_residual-in_err-two.result c.in_err-two.field-0.0 c.from_residual-in_err-two.ensures
    (fails c.in_err-two.field-0.0 (header_in c.args.ring c.args.lines.now) (few_2 c.args.ring c.args.lines.now _ _ c.in_ok-counts.counts c.in_err-two.field-0.0 one c.in_ok-counts.ensures c.in_err-two.ensures))

pub returns-in_err-inputs : goal.returns-in_err-inputs
returns-in_err-inputs c =
    let one : c.args.lines.now ≡ c.in_ok-one.one ∷ c.next_row.new.lines = row_next 0 c.args.lines.now _ c.in_ok-one.ensures in
    let two : c.args.lines.now ≡ c.in_ok-one.one ∷ c.in_ok-two.two ∷ c.next_row-2.new.lines = one ∙ ap (λ rs. c.in_ok-one.one ∷ rs) (row_next 1 c.next_row.new.lines _ c.in_ok-two.ensures) in
    sent (λ r. Begins c.args.ring c.args.lines.now r c.next_row-2.new.lines) c.from_residual-in_err-inputs.result c.in_err-inputs.field-0.0 c.from_residual-in_err-inputs.ensures
    (fails_so c.in_err-inputs.field-0.0 (widths_in c.in_ok-counts.counts.wires c.in_ok-two.two) (header_in c.args.ring c.args.lines.now) c.in_err-inputs.ensures
    (λ e. bad_2 c.args.ring c.args.lines.now _ _ _ c.in_ok-counts.counts c.in_err-inputs.field-0.0 two c.in_ok-counts.ensures e))

pub returns-in_err-three : goal.returns-in_err-three
returns-in_err-three c =
    let one : c.args.lines.now ≡ c.in_ok-one.one ∷ c.next_row.new.lines = row_next 0 c.args.lines.now _ c.in_ok-one.ensures in
    let two : c.args.lines.now ≡ c.in_ok-one.one ∷ c.in_ok-two.two ∷ c.next_row-2.new.lines = one ∙ ap (λ rs. c.in_ok-one.one ∷ rs) (row_next 1 c.next_row.new.lines _ c.in_ok-two.ensures) in
    sent (λ r. Begins c.args.ring c.args.lines.now r c.next_row-3.new.lines) c.from_residual-in_err-three.result c.in_err-three.field-0.0 c.from_residual-in_err-three.ensures
    (fails c.in_err-three.field-0.0 (header_in c.args.ring c.args.lines.now)
    (few_3 c.args.ring c.args.lines.now _ _ _ c.in_ok-counts.counts c.in_ok-inputs.inputs.items c.in_err-three.field-0.0 two c.in_ok-counts.ensures c.in_ok-inputs.ensures c.in_err-three.ensures))

pub returns-in_err-outputs : goal.returns-in_err-outputs
returns-in_err-outputs c =
    let one : c.args.lines.now ≡ c.in_ok-one.one ∷ c.next_row.new.lines = row_next 0 c.args.lines.now _ c.in_ok-one.ensures in
    let two : c.args.lines.now ≡ c.in_ok-one.one ∷ c.in_ok-two.two ∷ c.next_row-2.new.lines = one ∙ ap (λ rs. c.in_ok-one.one ∷ rs) (row_next 1 c.next_row.new.lines _ c.in_ok-two.ensures) in
    let three : c.args.lines.now ≡ c.in_ok-one.one ∷ c.in_ok-two.two ∷ c.in_ok-three.three ∷ c.next_row-3.new.lines = two ∙ ap (λ rs. c.in_ok-one.one ∷ c.in_ok-two.two ∷ rs) (row_next 2 c.next_row-2.new.lines _ c.in_ok-three.ensures) in
    sent (λ r. Begins c.args.ring c.args.lines.now r c.next_row-3.new.lines) c.from_residual-in_err-outputs.result c.in_err-outputs.field-0.0 c.from_residual-in_err-outputs.ensures
    (fails_so c.in_err-outputs.field-0.0 (widths_in c.in_ok-counts.counts.wires c.in_ok-three.three) (header_in c.args.ring c.args.lines.now) c.in_err-outputs.ensures
    (λ e. bad_3 c.args.ring c.args.lines.now _ _ _ _ c.in_ok-counts.counts c.in_ok-inputs.inputs.items c.in_err-outputs.field-0.0 three c.in_ok-counts.ensures c.in_ok-inputs.ensures e))

pub returns-in_err-builder : goal.returns-in_err-builder
returns-in_err-builder c =
    sent (λ r. Begins c.args.ring c.args.lines.now r c.next_row-3.new.lines) c.from_residual-in_err-builder.result c.in_err-builder.field-0.0 c.from_residual-in_err-builder.ensures
    (start_fails c.args.ring c.in_ok-one.one c.in_ok-two.two c.in_ok-three.three c.in_ok-counts.counts c.in_ok-inputs.inputs.items c.in_ok-outputs.outputs.items
    (c.number.result ∷ c.number-2.result ∷ c.number-3.result ∷ []) c.in_err-builder.field-0.0 (header_in c.args.ring c.args.lines.now) c.in_ok-counts.ensures c.in_ok-inputs.ensures c.in_ok-outputs.ensures c.in_err-builder.ensures)

pub returns : goal.returns
returns c =
    let one : c.args.lines.now ≡ c.in_ok-one.one ∷ c.next_row.new.lines = row_next 0 c.args.lines.now _ c.in_ok-one.ensures in
    let two : c.args.lines.now ≡ c.in_ok-one.one ∷ c.in_ok-two.two ∷ c.next_row-2.new.lines = one ∙ ap (λ rs. c.in_ok-one.one ∷ rs) (row_next 1 c.next_row.new.lines _ c.in_ok-two.ensures) in
    let three : c.args.lines.now ≡ c.in_ok-one.one ∷ c.in_ok-two.two ∷ c.in_ok-three.three ∷ c.next_row-3.new.lines = two ∙ ap (λ rs. c.in_ok-one.one ∷ c.in_ok-two.two ∷ rs) (row_next 2 c.next_row-2.new.lines _ c.in_ok-three.ensures) in
    begun c.args.ring c.args.lines.now c.next_row-3.new.lines c.in_ok-one.one c.in_ok-two.two c.in_ok-three.three c.in_ok-counts.counts c.in_ok-inputs.inputs.items c.in_ok-outputs.outputs.items
    (c.number.result ∷ c.number-2.result ∷ c.number-3.result ∷ []) c.in_ok-builder.builder three c.in_ok-counts.ensures c.in_ok-inputs.ensures c.in_ok-outputs.ensures c.in_ok-builder.ensures

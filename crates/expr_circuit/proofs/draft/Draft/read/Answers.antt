use Rattle.std.proofs.Common.{◌^◌, sym, ◌∙◌, ap}
use Rattle.expr_circuit.specs.Walks.{input_in, define_in, output_in, read_in}
use Rattle.expr_circuit.proofs.DraftSteps.{becomes_same}
use Rattle.expr_circuit.proofs.draft.Draft.read.Goals as goal

pub returns-in-Input : goal.returns-in-Input
returns-in-Input c = λ d keeps.
    becomes_same c.input.result c.input.new.self (input_in d c.args.line.now.number c.word_bytes.result.now) _
    (ap (λ h. read_in (2 ^ c.args.line.now.ring) d c.args.line.now.number c.args.line.now.text.now h c.args.elements.now) c.in-Input.is ∙ ap (input_in d c.args.line.now.number) (sym c.word_bytes.ensures)) (c.input.ensures d keeps)

pub returns-in-WideInput : goal.returns-in-WideInput
returns-in-WideInput c = λ d keeps.
    becomes_same c.input-in-WideInput.result c.input-in-WideInput.new.self (input_in d c.args.line.now.number c.word_bytes-in-WideInput.result.now) _
    (ap (λ h. read_in (2 ^ c.args.line.now.ring) d c.args.line.now.number c.args.line.now.text.now h c.args.elements.now) c.in-WideInput.is ∙ ap (input_in d c.args.line.now.number) (sym c.word_bytes-in-WideInput.ensures)) (c.input-in-WideInput.ensures d keeps)

pub returns-in-Let : goal.returns-in-Let
returns-in-Let c = λ d keeps.
    becomes_same c.define.result c.define.new.self (define_in (2 ^ c.args.line.now.ring) d c.args.line.now.number c.args.line.now.text.now c.word_bytes-name.result.now c.args.elements.now) _
    (ap (λ h. read_in (2 ^ c.args.line.now.ring) d c.args.line.now.number c.args.line.now.text.now h c.args.elements.now) c.in-Let.is
    ∙ ap (λ x. define_in (2 ^ c.args.line.now.ring) d c.args.line.now.number c.args.line.now.text.now x c.args.elements.now) (sym c.word_bytes-name.ensures)) (c.define.ensures d keeps)

pub returns-in-Output : goal.returns-in-Output
returns-in-Output c = λ d keeps.
    becomes_same c.output.result c.output.new.self (output_in (2 ^ c.args.line.now.ring) d c.args.line.now.number c.args.line.now.text.now c.args.elements.now) _
    (ap (λ h. read_in (2 ^ c.args.line.now.ring) d c.args.line.now.number c.args.line.now.text.now h c.args.elements.now) c.in-Output.is) (c.output.ensures d keeps)

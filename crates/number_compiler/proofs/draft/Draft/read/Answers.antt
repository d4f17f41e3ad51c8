use Rattle.std.proofs.Common.{Ok}
use Rattle.number_compiler.proofs.DraftSteps.{read_input, read_wide, read_let, read_output}
use Rattle.number_compiler.proofs.draft.Draft.read.Goals as goal

pub returns-in-Input : goal.returns-in-Input
returns-in-Input c = λ d form keeps is.
    read_input d c.args.line.now.text.now c.args.line.now.number form c.args.head _ c.args.elements.now c.args.self.now c.args.self.now (Ok tt) c.in-Input.is is

pub returns-in-WideInput : goal.returns-in-WideInput
returns-in-WideInput c = λ d form keeps is.
    read_wide d c.args.line.now.text.now c.args.line.now.number form c.args.head c.in-WideInput.name c.in-WideInput.width c.args.elements.now c.args.self.now c.input.new.self c.input.result c.in-WideInput.is is (c.input.ensures d keeps)

pub returns-in-Let : goal.returns-in-Let
returns-in-Let c = λ d form keeps is.
    read_let d c.args.line.now.text.now c.args.line.now.number form c.args.head c.in-Let.name c.args.elements.now c.args.self.now c.define.new.self c.define.result c.in-Let.is is (λ e post. c.define.ensures d e keeps post)

pub returns-in-Output : goal.returns-in-Output
returns-in-Output c = λ d form keeps is.
    read_output d c.args.line.now.text.now c.args.line.now.number form c.args.head c.args.elements.now c.args.self.now c.output.new.self c.output.result c.in-Output.is is (λ e post. c.output.ensures d e keeps post)

use Rattle.std.proofs.Common.{Ok, ◌∙◌, ap}
use Rattle.number_compiler.proofs.DraftSteps.{line_some, line_none, line_stops}
use Rattle.number_compiler.proofs.draft.Draft.line.Goals as goal

pub returns-in-Ok-Some : goal.returns-in-Ok-Some
returns-in-Ok-Some c = λ d keeps.
    line_some d c.args.line.now.text.now c.args.line.now.number c.parse_line.new.parser c.elements.result.now c.parse_line.result c.in-Ok-Some.head c.args.self.now c.read.new.self c.read.result (c.in-Ok-Some.is ∙ ap Ok c.in-Ok-Some.field-0-is) c.elements.ensures c.parse_line.ensures
    (λ form is. c.read.ensures d form keeps is)

pub returns-in-Ok-None : goal.returns-in-Ok-None
returns-in-Ok-None c = λ d keeps. line_none d c.args.line.now.text.now c.args.line.now.number c.parse_line.new.parser c.parse_line.result c.args.self.now tt (c.in-Ok-None.is ∙ ap Ok c.in-Ok-None.field-0-is) c.parse_line.ensures keeps

pub returns-in-Err : goal.returns-in-Err
returns-in-Err c = λ d keeps. line_stops d c.args.line.now.text.now c.args.line.now.number c.parse_line.new.parser c.parse_line.result c.in-Err.fault c.of_line.result c.args.self.now _ c.of_line.ensures c.in-Err.is c.parse_line.ensures

use Rattle.std.proofs.Common.{◌^◌, Ok, ◌∙◌, ap}
use Rattle.expr_circuit.specs.Walks.{read_in}
use Rattle.expr_circuit.proofs.DraftSteps.{line_some, line_none, line_stops, becomes_same}
use Rattle.expr_circuit.proofs.draft.Draft.line.Goals as goal

pub returns-in-Err : goal.returns-in-Err
returns-in-Err c = λ d keeps. line_stops (2 ^ c.args.line.now.ring) d c.args.line.now.number c.args.line.now.text.now c.parse_line.new.parser c.parse_line.result c.in-Err.fault c.of_line.result c.of_line.ensures c.in-Err.is c.parse_line.ensures

pub returns-in-Ok-Some : goal.returns-in-Ok-Some
returns-in-Ok-Some c = λ d keeps.
    becomes_same c.read.result c.read.new.self (read_in (2 ^ c.args.line.now.ring) d c.args.line.now.number c.args.line.now.text.now c.in-Ok-Some.head c.elements.result.now) _
    (line_some (2 ^ c.args.line.now.ring) d c.args.line.now.number c.args.line.now.text.now c.parse_line.new.parser c.elements.result.now c.parse_line.result c.in-Ok-Some.head (c.in-Ok-Some.is ∙ ap Ok c.in-Ok-Some.field-0-is) c.elements.ensures c.parse_line.ensures) (c.read.ensures d keeps)

pub returns-in-Ok-None : goal.returns-in-Ok-None
returns-in-Ok-None c = λ d keeps. (d, line_none (2 ^ c.args.line.now.ring) d c.args.line.now.number c.args.line.now.text.now c.parse_line.new.parser c.parse_line.result (c.in-Ok-None.is ∙ ap Ok c.in-Ok-None.field-0-is) c.parse_line.ensures, keeps)

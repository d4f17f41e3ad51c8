use Rattle.number_compiler.proofs.DraftSteps.{width_takes, width_found, width_faulty}
use Rattle.number_compiler.proofs.draft.Draft.input.Goals as goal

pub returns-in-Ok : goal.returns-in-Ok
returns-in-Ok c = λ d keeps.
    let found = width_found c.args.line.now.text.now c.args.line.now.number c.args.width c.width_at.result c.in-Ok.ring c.in-Ok.is c.width_at.ensures in
    c.named_input.ensures d c.args.width keeps found.0 found.1

pub returns-in-Err : goal.returns-in-Err
returns-in-Err c = λ d keeps.
    width_takes d c.args.line.now.text.now c.args.line.now.number c.args.name c.args.width c.args.self.now _ c.in-Err.fault (width_faulty c.args.line.now.text.now c.args.line.now.number c.args.width c.width_at.result c.in-Err.fault c.in-Err.is c.width_at.ensures)

use Rattle.number_compiler.specs.Seen.{seen}
use Rattle.number_compiler.proofs.ElementSteps.{prefix_moves}
use Rattle.number_compiler.proofs.elements.prefix.Goals as goal

pub returns : goal.returns
returns c = λ of by_number. prefix_moves of c.args.line.now.text.now by_number c.args.line.now.number c.args.x c.args.pending.now c.pop-operand.new.self c.push.new.self (seen c.pop-operand.result) (seen c.in_ok-number.number) _ _ c.pop-operand.ensures.is c.pop-operand.ensures.rest c.in_ok-number.ensures c.in_ok-push.ensures

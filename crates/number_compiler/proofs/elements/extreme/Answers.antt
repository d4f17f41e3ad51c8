use Rattle.number_compiler.specs.Seen.{seen}
use Rattle.number_compiler.proofs.ElementSteps.{pair_moves}
use Rattle.number_compiler.proofs.elements.extreme.Goals as goal

pub returns : goal.returns
returns c = λ of by_number.
    pair_moves of c.args.line.now.text.now by_number c.args.line.now.number c.args.p c.args.pending.now c.pop-right.new.self c.pop-left.new.self c.push.new.self (seen c.pop-left.result) (seen c.pop-right.result) (seen c.in_ok-number.number) _ _
    c.pop-right.ensures.is c.pop-right.ensures.rest c.pop-left.ensures.is c.pop-left.ensures.rest c.in_ok-number.ensures c.in_ok-push.ensures

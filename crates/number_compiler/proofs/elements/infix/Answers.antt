use Rattle.std.proofs.Common.{sym, ◌∙◌}
use Rattle.number_compiler.specs.Seen.{seen}
use Rattle.number_compiler.proofs.ElementSteps.{infix_moves}
use Rattle.number_compiler.proofs.elements.infix.Goals as goal

pub returns-in-Some : goal.returns-in-Some
returns-in-Some c = λ of.
    infix_moves of c.args.line.now.text.now c.args.by_number c.args.line.now.number c.args.at c.args.o c.args.pending.now c.pop-right.new.self c.pop-left.new.self c.push.new.self (seen c.pop-left.result) (seen c.pop-right.result) (seen c.in_ok-number-in-Some.number) c.in-Some.bound _ _
    c.pop-right.ensures.is c.pop-right.ensures.rest c.pop-left.ensures.is c.pop-left.ensures.rest (sym c.in-Some.is ∙ c.most.ensures) c.in_ok-number-in-Some.ensures c.in_ok-push-in-Some.ensures

use Rattle.std.proofs.Common.{sym, ◌∙◌}
use Rattle.number_compiler.specs.Seen.{seen}
use Rattle.number_compiler.proofs.ElementSteps.{number_moves}
use Rattle.number_compiler.proofs.elements.literal.Goals as goal

pub returns-in_ok-push-in-Some : goal.returns-in_ok-push-in-Some
returns-in_ok-push-in-Some c = λ of by_number k.
    number_moves of c.args.line.now.text.now by_number c.args.line.now.number c.args.at c.in-Some.found c.args.pending.now c.push.new.self k (seen c.in_ok-number-in-Some.number) (sym c.in-Some.is ∙ c.written.ensures) c.in_ok-number-in-Some.ensures c.in_ok-push-in-Some.ensures

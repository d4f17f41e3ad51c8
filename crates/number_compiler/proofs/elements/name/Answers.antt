use Rattle.std.proofs.Common.{sym, ◌∙◌, ap}
use Rattle.number_compiler.specs.Seen.{seen}
use Rattle.line_grammar.specs.Places.{name_at}
use Rattle.number_compiler.specs.Named.{seen_if, value_named}
use Rattle.number_compiler.proofs.ElementSteps.{name_moves}
use Rattle.number_compiler.proofs.elements.name.Goals as goal

pub returns-in_ok-push-in-Some : goal.returns-in_ok-push-in-Some
returns-in_ok-push-in-Some c = λ of are by_number k.
    name_moves of c.args.line.now.text.now by_number c.args.line.now.number c.args.at c.args.pending.now c.push.new.self k (seen c.in-Some.number)
    (sym (are (name_at c.args.line.now.text.now c.args.at)) ∙ ap (value_named c.args.names.now) (sym c.word_bytes.ensures) ∙ sym c.in_ok-number.ensures ∙ ap seen_if c.in-Some.is) c.in_ok-push-in-Some.ensures

use Rattle.std.proofs.Common.{◌+◌, [], ◌∷◌, refl, subst}
use Rattle.view_check.specs.Views.{Place, Passes}
use Rattle.view_check.proofs.WrittenTexts.{first_passes}
use Rattle.view_check.proofs.view_lines.ViewLines.check_message.Goals as goal

pub returns-then-take_written : goal.returns-then-take_written
returns-then-take_written c =
    let after : Place = record { lines = c.take_written.new.self; found = c.self.inside.found + 1 } in
    subst (λ before. Passes c.args.names.now ((c.args.key, c.args.word) ∷ []) before after) c.self.view_is
    (first_passes c.args.names.now c.args.key c.args.word (record { lines = c.self.inside.lines; found = c.self.inside.found }) after (c.if-take_written.ensures.taken refl) refl)

use Rattle.std.proofs.Common.{sym, ◌∙◌}
use Rattle.gate_lines.proofs.Places.{place-rows}
use Rattle.gate_lines.proofs.lines.Lines.cursor.Goals as goal

pub returns : goal.returns
returns c = c.first.ensures ∙ sym (place-rows c.self.inside.number c.self.inside.rest.now) ∙ c.self.view_is

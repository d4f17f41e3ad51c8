use Rattle.std.proofs.Common.{◌∙◌, sym, refl}
use Rattle.gate_lines.proofs.TextLines.{rows-none}
use Rattle.gate_lines.proofs.lines.Lines.next_line.Goals as goal

pub returns-in-None : goal.returns-in-None
returns-in-None c = (sym c.self.view_is ∙ c.in-None.ensures.rows, rows-none c.self.inside.number _ refl)

use Rattle.std.proofs.Common.{ap}
use Rattle.gate_lines.specs.Places.{Place, place_in}
use Rattle.gate_lines.proofs.cursor.Cursor.line.Goals as goal

pub returns : goal.returns
unfolding place_in
returns c = ap (λ (p : Place). p.number) c.self.view_is

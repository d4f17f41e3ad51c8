use Rattle.outer_io.proofs.GatheredTexts.{adds_then}
use Rattle.view_text.proofs.lines.gather_view_head.Goals as goal

pub returns : goal.returns
returns g c = adds_then _ _ _ _ _ c.push.ensures (adds_then _ _ _ _ _ c.gather_group.ensures c.push-2.ensures)

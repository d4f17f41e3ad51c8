use Rattle.outer_io.proofs.GatheredTexts.{adds_then}
use Rattle.view_text.proofs.lines.gather_place.Goals as goal

pub returns : goal.returns
returns g c =
    adds_then _ _ _ _ _ c.gather_number.ensures (adds_then _ _ _ _ _ c.push.ensures (adds_then _ _ _ _ _ c.gather_number-2.ensures (adds_then _ _ _ _ _ c.push-2.ensures c.gather_number-3.ensures)))

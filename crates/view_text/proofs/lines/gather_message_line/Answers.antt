use Rattle.outer_io.proofs.GatheredTexts.{adds_then}
use Rattle.view_text.proofs.lines.gather_message_line.Goals as goal

pub returns : goal.returns
returns g c =
    adds_then _ _ _ _ _ c.gather_place.ensures (adds_then _ _ _ _ _ c.gather_parties.ensures (adds_then _ _ _ _ _ c.gather_word.ensures c.push.ensures))

use Rattle.outer_io.proofs.GatheredTexts.{adds_then}
use Rattle.node_text.proofs.fault.gather_closed.Goals as goal

pub returns : goal.returns
returns g c = adds_then _ _ _ _ _ c.gather_head.ensures (adds_then _ _ _ _ _ c.push.ensures (adds_then _ _ _ _ _ c.gather_number.ensures c.push-2.ensures))

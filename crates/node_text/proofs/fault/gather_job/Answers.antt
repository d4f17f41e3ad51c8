use Rattle.outer_io.proofs.GatheredTexts.{adds_then}
use Rattle.node_text.proofs.fault.gather_job.Goals as goal

pub returns : goal.returns
returns g c = adds_then _ _ _ _ _ c.gather_head.ensures (adds_then _ _ _ _ _ c.push.ensures (adds_then _ _ _ _ _ c.gather_hex.ensures (adds_then _ _ _ _ _ c.push-2.ensures (adds_then _ _ _ _ _ c.gather_hex-2.ensures c.push-3.ensures))))

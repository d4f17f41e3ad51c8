use Rattle.std.proofs.Common.{subst}
use Rattle.outer_io.specs.Blocks.{Adds}
use Rattle.outer_io.proofs.GatheredTexts.{adds_then}
use Rattle.node_text.specs.FaultLines.{hex_text}
use Rattle.node_text.proofs.fault.gather_frame.Goals as goal

pub returns : goal.returns
returns g c =
    let hex = subst (λ xs. Adds (hex_text xs) (g.G.Gather.gathered c.push-2.new.self) (g.G.Gather.gathered c.gather_hex.new.out)) c.as_slice.ensures c.gather_hex.ensures in
    adds_then _ _ _ _ _ c.gather_head.ensures (adds_then _ _ _ _ _ c.push.ensures (adds_then _ _ _ _ _ c.gather_number.ensures (adds_then _ _ _ _ _ c.push-2.ensures (adds_then _ _ _ _ _ hex c.push-3.ensures))))

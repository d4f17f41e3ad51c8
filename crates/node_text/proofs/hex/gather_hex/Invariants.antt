use Rattle.std.proofs.Common.{take}
use Rattle.outer_io.specs.Blocks.{Adds}
use Rattle.node_text.specs.FaultLines.{hex_text}
use Rattle.node_text.proofs.hex.gather_hex.Given as goal

abbrev pub invariant-loop-byte : goal.invariant-loop-byte
invariant-loop-byte g l = Adds (hex_text (take l.byte-index l.bytes)) (g.G.Gather.gathered l.fn.out) (g.G.Gather.gathered l.out)

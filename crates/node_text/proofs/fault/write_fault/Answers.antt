use Rattle.std.proofs.Common.{rules, refl}
use Rattle.outer_io.proofs.GatheredTexts.{adds_all}
use Rattle.node_text.specs.FaultLines.{fault_line}
use Rattle.node_text.proofs.fault.write_fault.Goals as goal

pub returns : goal.returns
returns g c =
    adds_all g.S.Sink.reading (fault_line c.args.names.now c.args.fault.now) _ _ _ _ _ _ _ c.new-blocks.ensures refl refl c.gather_fault.ensures c.finish.ensures refl (search rules)

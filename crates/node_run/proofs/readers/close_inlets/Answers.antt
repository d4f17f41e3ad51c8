use Rattle.std.proofs.Common.{◌∙◌, map, arith}
use Rattle.std.proofs.Math.ListN.{length-map}
use Rattle.outer_io.specs.Inlet.{shut_inlet}
use Rattle.node_run.proofs.ClosedLinks.{shut_all, shut_more}
use Rattle.node_run.proofs.readers.close_inlets.Goals as goal

pub loop-inlet-preserved : goal.loop-inlet-preserved
loop-inlet-preserved g c =
    shut_more shut_inlet g.I.Inlet.reading c.loop-inlet.inlet-index _ c.loop-inlet.inlets (map g.I.Inlet.reading c.args.inlets.now) c.close.new.self c.inlet-item.result (omega arith) (omega arith) c.loop-inlet.invariant c.close.ensures

pub returns : goal.returns
returns g c =
    c.loop-inlet.invariant
    ∙ shut_all shut_inlet c.loop-inlet.inlet-index (map g.I.Inlet.reading c.args.inlets.now)
    (omega (arith, length-map c.args.inlets.now g.I.Inlet.reading, c.loop-inlet.auto.inlets, c.loop-inlet.auto.inlet-index-end, c.loop-inlet-test.false))

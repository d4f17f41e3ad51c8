use Rattle.std.proofs.Common.{◌∙◌, map, arith}
use Rattle.std.proofs.Math.ListN.{length-map}
use Rattle.outer_io.specs.Outlet.{shut_outlet}
use Rattle.node_run.proofs.ClosedLinks.{shut_all, shut_more}
use Rattle.node_run.proofs.readers.close_outlets.Goals as goal

pub loop-outlet-preserved : goal.loop-outlet-preserved
loop-outlet-preserved g c =
    shut_more shut_outlet g.O.Outlet.reading c.loop-outlet.outlet-index _ c.loop-outlet.outlets (map g.O.Outlet.reading c.args.outlets.now) c.close.new.self c.outlet-item.result (omega arith) (omega arith) c.loop-outlet.invariant c.close.ensures

pub returns : goal.returns
returns g c =
    c.loop-outlet.invariant
    ∙ shut_all shut_outlet c.loop-outlet.outlet-index (map g.O.Outlet.reading c.args.outlets.now)
    (omega (arith, length-map c.args.outlets.now g.O.Outlet.reading, c.loop-outlet.auto.outlets, c.loop-outlet.auto.outlet-index-end, c.loop-outlet-test.false))

use Rattle.std.proofs.Common.{refl}
use Rattle.mpc_top.proofs.LinkTalks.{broke, written, cut}
use Rattle.mpc_top.proofs.node.write_outcome.Goals as goal

pub returns-in_err-write_node-in-Ok : goal.returns-in_err-write_node-in-Ok
returns-in_err-write_node-in-Ok g c =
    cut c.args.names c.args.numeric.now c.args.plan.now c.args.me c.args.view c.args.outcome _ _ c.in-Ok.done c.in-Ok.is _ c.in_err-write_node-in-Ok.ensures _ c.from_residual.ensures.1

pub returns-in_ok-write_node-in-Ok : goal.returns-in_ok-write_node-in-Ok
returns-in_ok-write_node-in-Ok g c =
    written c.args.names c.args.numeric.now c.args.plan.now c.args.me c.args.view c.args.outcome _ _ c.in-Ok.done c.in-Ok.is _ c.in_ok-write_node-in-Ok.ensures

pub returns-in-Err : goal.returns-in-Err
returns-in-Err g c =
    let out = g.O.Sink.reading c.args.out.now in
    broke c.args.names c.args.numeric.now c.args.plan.now c.args.me c.args.view c.args.outcome out out c.in-Err.fault c.in-Err.is refl

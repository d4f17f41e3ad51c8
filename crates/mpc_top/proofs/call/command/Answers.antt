use Rattle.mpc_top.specs.Due.{words_view}
use Rattle.mpc_top.specs.Outside.{outside_of}
use Rattle.mpc_top.proofs.call.command.Goals as goal

pub returns : goal.returns
returns g c =
    let err = g.E.Sink.reading c.args.err.now in
    c.tell.ensures (words_view c.args.words.now) (outside_of _ _ err _ _) (outside_of _ _ err _ _) c.run-result.ensures

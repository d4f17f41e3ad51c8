use Rattle.mpc_top.specs.Due.{words_view}
use Rattle.mpc_top.specs.Outside.{outside_of}
use Rattle.mpc_top.proofs.call.command_alone.Goals as goal

pub returns-in-Some : goal.returns-in-Some
returns-in-Some g c = (
  c.in-Some.ensures.0,
  λ net spawner.
      let err = g.E.Sink.reading c.args.err.now in
      c.tell.ensures (words_view c.args.words.now) (outside_of _ _ err net spawner) (outside_of _ _ err net spawner) (λ e e'. c.in-Some.ensures.1 e e' net spawner),
)

use Rattle.std.proofs.Common.{sym, subst, arith}
use Rattle.std.proofs.lemmas.List.{with_items_is}
use Rattle.desk_workers.specs.Promises.{world_in}
use Rattle.desk_workers.specs.Pools.{AllStand}
use Rattle.desk_workers.proofs.finish.finish_all.Goals as goal

pub finish-requires-clause-desks : goal.finish-requires-clause-desks
finish-requires-clause-desks c = subst (AllStand (world_in c.args.board.now.about.world) c.args.seat.now.view.seen) (sym c.as_mut_slice.ensures.value) c.requires.desks

pub returns-clause-desks : goal.returns-clause-desks
returns-clause-desks c =
    subst (AllStand (world_in c.args.board.now.about.world) c.finish.new.seat.view.seen)
    (sym (with_items_is c.args.desks.now c.finish.new.desks (omega (arith, c.finish.ensures.count, c.as_mut_slice.ensures.len))))
    c.finish.ensures.desks

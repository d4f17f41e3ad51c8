use Rattle.std.proofs.Common.{sym, subst, ◌∙◌, arith}
use Rattle.desk_laws.specs.Pools.{AllEnded}
use Rattle.desk_workers.specs.Promises.{world_in}
use Rattle.desk_workers.proofs.DeskLists.{few_slots, ended}
use Rattle.desk_workers.proofs.finish.finish.Goals as goal

pub round-moves-requires-clause-few : goal.round-moves-requires-clause-few
round-moves-requires-clause-few c =
    let few = few_slots c.args.plan.now c.args.board.now c.requires.pool in
    let count = c.requires.count in
    let same = c.loop-moves.invariant.2 in
    omega arith

pub loop-moves-preserved : goal.loop-moves-preserved
loop-moves-preserved c =
    let h = c.loop-moves.invariant in
    let e = c.round-moves.ensures in (
      e.seat,
      e.desks,
      e.count ∙ h.2,
      (λ none. subst (AllEnded (world_in c.args.board.now.about.world)) (sym (e.still none))
          (ended c.args.plan.now c.args.board.now c.requires.pool c.loop-moves.seat.view.seen c.loop-moves.desks (h.2 ∙ c.requires.count) h.1 (e.stuck none))),
    )

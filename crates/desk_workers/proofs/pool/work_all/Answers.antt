use Rattle.std.proofs.Common.{sym, subst, arith}
use Rattle.std.proofs.lemmas.List.{with_items_is}
use Rattle.desk_workers.specs.Pools.{SameSeatCounts}
use Rattle.desk_workers.proofs.pool.work_all.Goals as goal

pub returns-clause-seats : goal.returns-clause-seats
returns-clause-seats g c =
    subst (SameSeatCounts c.args.seats.now.items)
    (sym (with_items_is c.args.seats.now c.fan_out.new.seats (omega (arith, c.fan_out.ensures.len, c.as_mut_slice.ensures.len))))
    (subst (λ l. SameSeatCounts l c.fan_out.new.seats) c.as_mut_slice.ensures.value c.fan_out.ensures.seats)

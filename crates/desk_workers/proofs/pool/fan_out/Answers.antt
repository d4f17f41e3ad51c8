use Rattle.std.proofs.Common.{rules}
use Rattle.desk_workers.proofs.SeatLists.{same_counts}
use Rattle.desk_workers.proofs.pool.fan_out.Goals as goal

pub returns-clause-seats : goal.returns-clause-seats
returns-clause-seats g c = same_counts c.args.seats.now c.for_each_mut.new.s (λ i d less. search rules)

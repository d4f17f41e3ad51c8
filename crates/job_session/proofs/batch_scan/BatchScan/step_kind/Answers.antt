use Rattle.std.proofs.Common.{arith}
use Rattle.session_slots.specs.Wirings.{session_in}
use Rattle.session_slots.proofs.RowNames.{few_slots}
use Rattle.job_session.proofs.BatchOrder.{batch_within}
use Rattle.job_session.proofs.batch_scan.BatchScan.step_kind.Goals as goal

pub complete-requires-clause-few : goal.complete-requires-clause-few
complete-requires-clause-few c =
    let s = session_in c.args.wiring.now in
    omega (arith, c.in_ok-begin.ensures.first, batch_within s c.args.k, c.requires.slot, few_slots s c.requires.wiring.wired)

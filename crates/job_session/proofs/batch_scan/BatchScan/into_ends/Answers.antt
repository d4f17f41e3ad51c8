use Rattle.std.proofs.Common.{◌≡◌, ℕ, ◌-◌, ◌++◌, length, replicate, subst, arith}
use Rattle.session_slots.specs.Sessions.{session_slots}
use Rattle.session_slots.specs.Wirings.{session_in}
use Rattle.job_session.proofs.BatchOrder.{batch_within}
use Rattle.job_session.proofs.ScannedBatches.{all_ends}
use Rattle.job_session.proofs.batch_scan.BatchScan.into_ends.Goals as goal

pub end_batch-requires : goal.end_batch-requires
end_batch-requires c =
    let s = session_in c.args.wiring.now in
    omega (arith, c.requires.scan.ended, batch_within s (session_slots s - 1), c.slots.ensures)

pub returns : goal.returns
returns c =
    let s = session_in c.args.wiring.now in
    let old = c.args.self.ends.items in
    let new = c.end_batch.new.self.ends.items in
    all_ends s c.args.self new c.requires.scan (subst (λ (k : ℕ). new ≡ old ++ replicate (k - length old) k) c.slots.ensures c.in_ok-end_batch.ensures.ends)

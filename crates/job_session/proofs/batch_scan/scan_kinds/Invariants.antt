use Rattle.std.proofs.Common.{◌-◌}
use Rattle.job_session.specs.BatchScans.{IsBatchScan}
use Rattle.session_slots.specs.Wirings.{session_in}
use Rattle.job_session.proofs.batch_scan.scan_kinds.Given as goal

-- the batches after the slots so far
abbrev pub invariant-loop-k : goal.invariant-loop-k
invariant-loop-k l = IsBatchScan (session_in l.wiring) (l.k - 1) l.k l.scan

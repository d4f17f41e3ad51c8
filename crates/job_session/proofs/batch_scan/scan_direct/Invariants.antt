use Rattle.std.proofs.Common.{◌+◌, ◌-◌, length}
use Rattle.job_session.specs.BatchScans.{IsBatchScan}
use Rattle.session_slots.specs.Wirings.{session_in}
use Rattle.job_session.proofs.batch_scan.scan_direct.Given as goal

-- the batches after the slots so far
abbrev pub invariant-loop-v : goal.invariant-loop-v
invariant-loop-v l = IsBatchScan (session_in l.wiring) (l.v - 1) l.v l.scan

abbrev pub invariant-loop-t : goal.invariant-loop-t
invariant-loop-t l =
    let k = length l.wiring.owners.items + l.t in
    IsBatchScan (session_in l.wiring) (k - 1) k l.scan

abbrev pub invariant-loop-o : goal.invariant-loop-o
invariant-loop-o l =
    let k = length l.wiring.owners.items + length l.wiring.gates.items + l.o in
    IsBatchScan (session_in l.wiring) (k - 1) k l.scan

use Rattle.job_session.specs.RowScans.{IsScan}
use Rattle.session_slots.specs.Wirings.{session_in}
use Rattle.job_session.proofs.row_table.scan_kinds.Given as goal

-- the rows after the slots so far
abbrev pub invariant-loop-k : goal.invariant-loop-k
invariant-loop-k l = IsScan (session_in l.wiring) l.k l.scan

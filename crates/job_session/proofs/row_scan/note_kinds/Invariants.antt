use Rattle.job_session.specs.RowScans.{AreLastReads}
use Rattle.session_slots.specs.Wirings.{session_in}
use Rattle.job_session.proofs.row_scan.note_kinds.Given as goal

-- those of the slots so far
abbrev pub invariant-loop-k : goal.invariant-loop-k
invariant-loop-k l = AreLastReads (session_in l.wiring) l.k l.last

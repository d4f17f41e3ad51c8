use Rattle.std.proofs.Common.{◌≡◌, drop}
use Rattle.job_session.specs.Parts.{carries_fault}
use Rattle.job_session.proofs.session_part.check_carries.Given as goal

-- nothing is wrong with those so far
abbrev pub invariant-loop-i : goal.invariant-loop-i
invariant-loop-i l = carries_fault l.earlier l.widths l.owners ≡ carries_fault l.earlier (drop l.i l.widths) (drop l.i l.owners)

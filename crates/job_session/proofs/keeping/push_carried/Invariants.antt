use Rattle.std.proofs.Common.{◌≡◌, ◌++◌}
use Rattle.list_laws.specs.Lists.{joined}
use Rattle.session_slots.specs.Carries.{kept_for}
use Rattle.job_session.proofs.keeping.push_carried.Given as goal

-- what the wires so far carry
abbrev pub invariant-loop-wire : goal.invariant-loop-wire
invariant-loop-wire l = l.kept.items ≡ l.initial.kept.items ++ joined l.wire (kept_for l.parts l.r l.s)

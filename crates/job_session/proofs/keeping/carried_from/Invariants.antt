use Rattle.std.proofs.Common.{◌≡◌, length}
use Rattle.list_laws.specs.Lists.{joined}
use Rattle.session_slots.specs.Sessions.{owners, session_at}
use Rattle.session_slots.specs.Carries.{kept_for}
use Rattle.job_session.proofs.keeping.carried_from.Given as goal

-- what the sessions so far carry
abbrev pub invariant-loop-s : goal.invariant-loop-s
invariant-loop-s l = l.kept.items ≡ joined l.s (λ s. joined (length (owners (session_at l.parts s))) (kept_for l.parts l.r s))

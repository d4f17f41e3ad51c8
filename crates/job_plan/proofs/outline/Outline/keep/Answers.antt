use Rattle.std.proofs.Common.{ℕ, ◌<◌, List, length, sym, ap, subst, All, arith}
use Rattle.std.proofs.lemmas.List.Elements.{All-from_get_or}
use Rattle.session_slots.specs.Sessions.{Session, no_session, session_at}
use Rattle.session_slots.specs.SoundSessions.{IsSoundSession}
use Rattle.session_slots.specs.Carries.{AllFit}
use Rattle.session_slots.proofs.KeptSessions.{keeping_fits, length_keeping}
use Rattle.job_plan.proofs.outline.Outline.keep.Goals as goal

all_sound : (parties : ℕ) (sessions : List Session) → ((s : ℕ) → s < length sessions → IsSoundSession parties (session_at sessions s)) → All (IsSoundSession parties) sessions
all_sound parties sessions h = All-from_get_or (IsSoundSession parties) sessions no_session h

pub keep_carried-requires-clause-wired : goal.keep_carried-requires-clause-wired
keep_carried-requires-clause-wired c = λ k d l. (all_sound c.self.inside.layout.parties c.self.inside.parts.items c.self.invariant.1.sessions k d l).wired

pub of-requires-clause-few : goal.of-requires-clause-few
of-requires-clause-few c = omega (arith, ap length c.in_ok-parts.ensures.made, length_keeping c.self.inside.parts.items, c.self.invariant.1.few_sessions)

pub of-requires-clause-sound : goal.of-requires-clause-sound
of-requires-clause-sound c = c.in_ok-parts.ensures.sound c.self.inside.layout.parties (all_sound c.self.inside.layout.parties c.self.inside.parts.items c.self.invariant.1.sessions)

pub of-requires-clause-fit : goal.of-requires-clause-fit
of-requires-clause-fit c = subst AllFit (sym c.in_ok-parts.ensures.made) (keeping_fits c.self.inside.parts.items c.self.invariant.1.fit)

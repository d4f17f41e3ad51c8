use Rattle.std.proofs.Common.{true, sym, subst}
use Rattle.session_slots.specs.Sessions.{Session}
use Rattle.session_slots.specs.SoundSessions.{IsSoundSession}
use Rattle.session_slots.specs.Wirings.{session_in}
use Rattle.job_session.proofs.CircuitSessions.{sound_as, sound_with}
use Rattle.job_session.proofs.session_part.SessionPart.prepare.Goals as goal

pub returns-clause-sound : goal.returns-clause-sound
returns-clause-sound c = λ parties sound.
    sound_as parties c.of.result (session_in c.in_ok-wiring.wiring) c.of.ensures
    (subst (λ (s : Session). IsSoundSession parties s) (sym c.in_ok-wiring.ensures.made)
    (let before = subst (λ (s : Session). IsSoundSession parties s) (sym c.self.view_is) sound in
    sound_with parties (session_in c.self.inside.wiring) true c.args.ahead (session_in c.self.inside.wiring).kept before before.wired.kept))

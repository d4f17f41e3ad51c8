use Rattle.std.proofs.Common.{sym, subst}
use Rattle.session_slots.specs.Sessions.{Session}
use Rattle.session_slots.specs.SoundSessions.{AreKept, IsSoundSession}
use Rattle.session_slots.specs.Wirings.{session_in}
use Rattle.job_session.proofs.CircuitSessions.{sound_as, sound_with}
use Rattle.job_session.proofs.session_part.SessionPart.keep.Goals as goal

pub returns-clause-sound : goal.returns-clause-sound
returns-clause-sound c = λ parties sound.
    let before = session_in c.self-2.inside.wiring in
    sound_as parties c.of.result (session_in c.in_ok-wiring.wiring) c.of.ensures
    (subst (λ (s : Session). IsSoundSession parties s) (sym c.in_ok-wiring.ensures.made)
    (sound_with parties before before.prepared before.ahead c.args.kept.items (subst (λ (s : Session). IsSoundSession parties s) (sym c.self-2.view_is) sound)
    (subst (λ (s : Session). AreKept s c.args.kept.items) (sym c.self-2.view_is) c.requires)))

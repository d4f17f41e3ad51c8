-- A list of one session, which carries nothing.
use Rattle.std.proofs.Common.{zero, suc, [], ◌∷◌, arith}
use Rattle.session_slots.specs.Carries.{CarriesFit, AllFit}
use Rattle.session_slots.specs.Sessions.{Session}

pub fit_one : (x : Session) → CarriesFit [] x → AllFit (x ∷ [])
fit_one x fit zero l = fit
fit_one x fit (suc s) l = absurd (omega (arith, l))

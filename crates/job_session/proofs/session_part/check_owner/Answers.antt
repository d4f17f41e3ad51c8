use Rattle.std.proofs.Common.{◌≡◌, length, Some, None, sym, ◌∙◌, subst}
use Rattle.std.specs.Result.{MatchResult}
use Rattle.std.specs.Prelude.{slice_get}
use Rattle.std.proofs.lemmas.List.{get_or_default}
use Rattle.session_slots.specs.declared.values.Owner.{Owner}
use Rattle.session_slots.specs.Sessions.{Session, no_session, session_at}
use Rattle.job_session.specs.Parts.{carry_fault, owner_fault}
use Rattle.job_session.proofs.session_part.check_owner.Goals as goal

pub bounds-earlier-session : goal.bounds-earlier-session
bounds-earlier-session c = c.requires c.in-Carried.session c.in-Carried.value c.in-Carried.is

pub returns-in-Carried : goal.returns-in-Carried
returns-in-Carried c =
    let earlier = c.args.earlier.now in
    let at = c.in-Carried.value in
    let within = c.requires c.in-Carried.session at c.in-Carried.is in
    let found : c.index-earlier-session.result ≡ session_at earlier c.in-Carried.session =
    c.index-earlier-session.is ∙ get_or_default earlier c.in-Carried.session c.index-earlier-session.result no_session within in
    subst (λ (owner : Owner). MatchResult c.check_carry.result (λ _. owner_fault earlier c.args.width owner ≡ None) (λ fault. owner_fault earlier c.args.width owner ≡ Some fault)) (sym c.in-Carried.is)
    (subst (λ (s : Session). MatchResult c.check_carry.result (λ _. carry_fault c.args.width at (length s.outputs) (slice_get s.outputs at) ≡ None)
    (λ fault. carry_fault c.args.width at (length s.outputs) (slice_get s.outputs at) ≡ Some fault)) found c.check_carry.ensures)

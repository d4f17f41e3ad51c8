use Rattle.std.proofs.Common.{◌+◌, sym, subst}
use Rattle.party_program.specs.ProgramPlaces.{IsPlace}
use Rattle.party_desk.proofs.desk.Desk.advance.Goals as goal

-- the program is that of the desk's party in its session
pub returns-clause-place : goal.returns-clause-place
returns-clause-place c =
    let plan = c.args.plan.now in
    let desk = c.args.self.now in
    let is = c.requires.program in
    let own : IsPlace plan desk.program.party desk.program.session desk.place desk.position =
    subst (λ z. IsPlace plan z desk.program.session desk.place desk.position) (sym is.of_party)
    (subst (λ z. IsPlace plan desk.party z desk.place desk.position) (sym is.of_session) c.requires.place) in
    subst (λ z. IsPlace plan z desk.session c.go_on.new.place (desk.position + 1)) is.of_party
    (subst (λ z. IsPlace plan desk.program.party z c.go_on.new.place (desk.position + 1)) is.of_session (c.go_on.ensures desk.position own))

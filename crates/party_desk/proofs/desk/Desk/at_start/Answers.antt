use Rattle.std.proofs.Common.{ℕ, length, refl, subst, arith}
use Rattle.list_laws.proofs.JoinedLists.{total_within}
use Rattle.plan_model.specs.Plans.{Plan, words}
use Rattle.party_program.specs.ProgramPlaces.{IsPlace, IsProgram}
use Rattle.party_program.specs.declared.program.Program.{Program}
use Rattle.party_program.specs.declared.place.Place.{Place}
use Rattle.party_desk.proofs.NewDesks.{begins}
use Rattle.party_desk.proofs.desk.Desk.at_start.Goals as goal

-- the place is that of the program's party in its session
first_place : (plan : Plan) (p s : ℕ) (program : Program) (place : Place) → IsProgram plan p s program → IsPlace plan program.party program.session place 0 → IsPlace plan p s place 0
first_place plan p s program place is here = subst (λ z. IsPlace plan z s place 0) is.of_party (subst (λ z. IsPlace plan program.party z place 0) is.of_session here)

pub returns : goal.returns
returns c inputs r small many =
    record {
      position = refl;
      desk = λ got. begins _ _ (record { sound = c.recall.ensures; party = c.requires.party; session = c.requires.session; inputs = many; tape = c.requires.long }) refl refl r.program (c.len-instructions.ensures _ _ _ r.program) (first_place c.args.plan.now c.args.party c.args.session _ c.start-place.result r.program c.start-place.ensures) r.table refl refl refl c.left-piece.ensures r.inputs refl r.rows refl r.sums refl refl r.outputs small c.requires.words;
    }

-- no party draws more words than a piece counts
pub overflow_cast-piece : goal.overflow_cast-piece
overflow_cast-piece c =
    let within = total_within (length c.args.plan.now.sessions) c.args.session (words c.args.plan.now c.args.party) c.requires.session in
    let few = c.recall.ensures.few_words c.args.party c.requires.party in
    let long = c.requires.long in
    let piece = c.left-piece.ensures in
    omega (arith, within, few, long, piece)

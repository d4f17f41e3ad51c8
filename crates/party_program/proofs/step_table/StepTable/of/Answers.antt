use Rattle.std.proofs.Common.{sym, ap, ◌∙◌, subst}
use Rattle.party_program.specs.PartySteps.{steps}
use Rattle.party_program.specs.ProgramPlaces.{OccursIn}
use Rattle.party_program.proofs.step_table.StepTable.of.Goals as goal

pub returns-in-Dealt : goal.returns-in-Dealt
returns-in-Dealt c = λ plan p s half are occurs.
    c.deal.ensures plan p s half are (subst (OccursIn plan s) c.in-Dealt.is occurs) ∙ ap (steps plan p half) (sym c.in-Dealt.is)

pub returns-in-Opened : goal.returns-in-Opened
returns-in-Opened c = λ plan p s half are occurs.
    c.opening.ensures plan p s half are (subst (OccursIn plan s) c.in-Opened.is occurs) ∙ ap (steps plan p half) (sym c.in-Opened.is)

pub returns-in-Multiplied : goal.returns-in-Multiplied
returns-in-Multiplied c = λ plan p s half are occurs.
    c.of_product.ensures plan p s half are ∙ ap (steps plan p half) (sym c.in-Multiplied.is)

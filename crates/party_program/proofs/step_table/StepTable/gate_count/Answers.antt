use Rattle.std.proofs.Common.{length, sym, ap, ◌∙◌}
use Rattle.party_program.specs.declared.step.Step.{Step}
use Rattle.party_program.specs.PartySteps.{steps}
use Rattle.party_program.proofs.step_table.StepTable.gate_count.Goals as goal

pub returns-in-Multiplied : goal.returns-in-Multiplied
returns-in-Multiplied c = λ plan p s half are some.
    ap (length {A = Step}) (c.of_product.ensures plan p s half are)
    ∙ ap (λ pattern. length (steps plan p half pattern)) (sym c.in-Multiplied.is)

pub returns-in-Silent : goal.returns-in-Silent
returns-in-Silent c = λ plan p s half are some.
    ap (length {A = Step}) (c.as_slice.ensures ∙ are.silent)
    ∙ ap (λ pattern. length (steps plan p half pattern)) (sym c.in-Silent.is)

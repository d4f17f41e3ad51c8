use Rattle.std.proofs.Common.{◌++◌, ◌∷◌, [], map, take, get_or, ◌∙◌, ap, append_assoc}
use Rattle.std.specs.Prelude.{decimal}
use Rattle.circuit_file.specs.CircuitTexts.{spaced}
use Rattle.circuit_file.proofs.writer.push_spaced.Goals as goal
use Rattle.circuit_file.proofs.WriterSteps.{numbers_more}

pub loop-number-preserved : goal.loop-number-preserved
loop-number-preserved c =
    c.in_ok-push_number.ensures
    ∙ ap (λ t. t ++ decimal (get_or c.args.numbers.now c.loop-number.number-index 0)) (c.in_ok-push.ensures ∙ ap (λ t. t ++ (32 ∷ [])) c.loop-number.invariant)
    ∙ append_assoc (c.args.text.now.items ++ spaced (map decimal (take c.loop-number.number-index c.args.numbers.now))) (32 ∷ []) (decimal (get_or c.args.numbers.now c.loop-number.number-index 0))
    ∙ numbers_more c.args.text.now.items c.args.numbers.now c.loop-number.number-index 0 c.loop-number-test.true

use Rattle.std.proofs.Common.{[], ◌∷◌, arith}
use Rattle.list_laws.proofs.FirstFaults.{joined-stops, joined_more-passed, or_fault-ok, or_fault-err}
use Rattle.std.proofs.Common.{length}
use Rattle.party_file.specs.Table.{number_outside}
use Rattle.party_file.proofs.NumberChecks.{handed_on}
use Rattle.party_file.proofs.number_inputs.check_numbers.Goals as goal

pub returns-in_err-check_number : goal.returns-in_err-check_number
returns-in_err-check_number c =
    handed_on c.from_residual.result _ _ c.from_residual.ensures.1
    (joined-stops (length c.args.numbers.now) c.loop-place.place (λ place. number_outside c.args.widths.now c.args.session c.args.numbers.now place ∷ []) _ (omega arith) c.loop-place.invariant (or_fault-err _ _ _ c.in_err-check_number.ensures))

pub loop-place-preserved : goal.loop-place-preserved
loop-place-preserved c =
    joined_more-passed c.loop-place.place (λ place. number_outside c.args.widths.now c.args.session c.args.numbers.now place ∷ []) c.loop-place.invariant (or_fault-ok _ _ _ c.in_ok-check_number.ensures).0

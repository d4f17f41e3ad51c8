use Rattle.party_file.proofs.NumberChecks.{all_within, none_above}
use Rattle.party_file.proofs.number_inputs.is_within.Goals as goal

pub returns-then-bits-ge64 : goal.returns-then-bits-ge64
returns-then-bits-ge64 c = all_within c.args.number c.args.bits c.ranges.number.fits c.if-bits-ge64.true

pub returns-else-bits-ge64 : goal.returns-else-bits-ge64
returns-else-bits-ge64 c = none_above c.args.number c.args.bits

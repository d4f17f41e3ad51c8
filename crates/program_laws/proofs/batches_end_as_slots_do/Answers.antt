use Rattle.std.proofs.Common.{sym}
use Rattle.program_model.specs.States.{new_state}
use Rattle.program_laws.proofs.LocalPrograms.{by_beginnings, by_batches}
use Rattle.program_laws.proofs.batches_end_as_slots_do.Goals as goal

pub returns-clause-begin : goal.returns-clause-begin
returns-clause-begin c w got s p k sound ls lk e = sym ((by_beginnings w sound got s p ls k lk e).same new_state)

pub returns-clause-end : goal.returns-clause-end
returns-clause-end c w got s p sound ls = sym ((by_batches w sound got s p ls).same new_state)

use Rattle.party_names.proofs.NameFaults.{no_fault_tells, no_fault_from}
use Rattle.party_names.proofs.names.names_have_no_fault.Goals as goal

pub returns-clause-names : goal.returns-clause-names
returns-clause-names c = no_fault_tells

pub returns-clause-no_fault : goal.returns-clause-no_fault
returns-clause-no_fault c = no_fault_from

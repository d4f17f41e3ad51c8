use Rattle.tape_map.proofs.NoFaults.{no_fault}
use Rattle.tape_map.proofs.fault_law.no_fault_where_it_can_be_hidden.Goals as goal

pub returns : goal.returns
returns c w other group whole others = no_fault w other group whole others

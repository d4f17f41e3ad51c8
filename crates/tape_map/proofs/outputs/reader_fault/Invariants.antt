use Rattle.std.proofs.Common.{◌≡◌, None}
use Rattle.list_laws.specs.Lists.{listed}
use Rattle.list_laws.specs.Checks.{first_fault}
use Rattle.tape_map.specs.MapFaults.{output_check}
use Rattle.tape_map.proofs.outputs.reader_fault.Given as goal

-- all checks so far pass
abbrev pub invariant-loop-recipient : goal.invariant-loop-recipient
invariant-loop-recipient l = first_fault (listed l.recipient (output_check l.plan l.group.mask l.s l.first l.second l.o)) ≡ None

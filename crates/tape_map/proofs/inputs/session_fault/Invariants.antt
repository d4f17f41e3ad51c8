use Rattle.std.proofs.Common.{◌≡◌, [], None}
use Rattle.list_laws.specs.Lists.{listed}
use Rattle.list_laws.specs.Checks.{first_fault}
use Rattle.tape_map.specs.MapFaults.{input_check}
use Rattle.tape_map.proofs.inputs.session_fault.Given as goal

-- all checks so far pass
abbrev pub invariant-loop-wire : goal.invariant-loop-wire
invariant-loop-wire l = first_fault (listed l.wire (input_check (record { plan = l.plan; inputs = l.inputs; tapes = [] }) l.other l.group.mask l.s)) ≡ None

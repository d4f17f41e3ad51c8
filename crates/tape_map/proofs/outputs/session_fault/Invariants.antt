use Rattle.std.proofs.Common.{◌≡◌, None}
use Rattle.std.specs.Prelude.{slice_index}
use Rattle.list_laws.specs.Lists.{joined, listed}
use Rattle.list_laws.specs.Checks.{first_fault}
use Rattle.session_slots.specs.Sessions.{output_wire}
use Rattle.plan_model.specs.Plans.{session}
use Rattle.tape_map.specs.MapFaults.{output_check}
use Rattle.tape_map.proofs.outputs.session_fault.Given as goal

-- all checks so far pass
abbrev pub invariant-loop-o : goal.invariant-loop-o
invariant-loop-o l =
    first_fault (joined l.o (λ o. listed l.plan.parties (output_check l.plan l.group.mask l.s
    (slice_index l.first (output_wire (session l.plan l.s) o)) (slice_index l.second (output_wire (session l.plan l.s) o)) o))) ≡ None

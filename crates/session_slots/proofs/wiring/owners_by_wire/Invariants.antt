use Rattle.std.proofs.Common.{◌≡◌, ◌++◌, drop}
use Rattle.std.specs.Prelude.{map}
use Rattle.session_slots.specs.Sessions.{giver, owners_of}
use Rattle.session_slots.proofs.wiring.owners_by_wire.Given as goal

-- what is listed and what is left are the whole
abbrev pub invariant-loop-value : goal.invariant-loop-value
invariant-loop-value l = l.list.items ++ map giver (owners_of (drop l.value-index l.inputs)) ≡ map giver (owners_of l.inputs)

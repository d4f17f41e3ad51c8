use Rattle.std.proofs.Common.{◌≡◌, ◌++◌}
use Rattle.list_laws.specs.Lists.{listed}
use Rattle.session_slots.specs.Sessions.{source_from}
use Rattle.session_slots.proofs.wiring.push_sources.Given as goal

-- those of the wires so far
abbrev pub invariant-loop-wire : goal.invariant-loop-wire
invariant-loop-wire l = l.list.items ≡ l.initial.list.items ++ listed l.wire (source_from l.owner)

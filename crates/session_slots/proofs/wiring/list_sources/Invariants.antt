use Rattle.std.proofs.Common.{◌≡◌, ◌++◌, drop}
use Rattle.session_slots.specs.Sessions.{owners_of}
use Rattle.session_slots.proofs.wiring.list_sources.Given as goal

-- what is listed and what is left are the whole
abbrev pub invariant-loop-value : goal.invariant-loop-value
invariant-loop-value l = l.list.items ++ owners_of (drop l.value-index l.inputs) ≡ owners_of l.inputs

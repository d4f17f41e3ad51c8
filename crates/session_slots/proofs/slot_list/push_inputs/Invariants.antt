use Rattle.std.proofs.Common.{◌≡◌, ◌++◌}
use Rattle.std.specs.Prelude.{map}
use Rattle.list_laws.specs.Lists.{listed}
use Rattle.session_slots.specs.Sessions.Slot.{Input}
use Rattle.session_slots.specs.SoundSessions.{slot_of_kind}
use Rattle.session_slots.proofs.slot_list.push_inputs.Given as goal

-- those of the wires so far
abbrev pub invariant-loop-v : goal.invariant-loop-v
invariant-loop-v l = map slot_of_kind l.kinds.items ≡ map slot_of_kind l.initial.kinds.items ++ listed l.v (λ v. Input v)

use Rattle.std.proofs.Common.{◌≡◌, ◌++◌}
use Rattle.std.specs.Prelude.{map}
use Rattle.list_laws.specs.Lists.{listed}
use Rattle.session_slots.specs.Sessions.Slot.{Output}
use Rattle.session_slots.specs.SoundSessions.{slot_of_kind}
use Rattle.session_slots.proofs.slot_list.push_outputs.Given as goal

-- those of the wires so far
abbrev pub invariant-loop-o : goal.invariant-loop-o
invariant-loop-o l = map slot_of_kind l.kinds.items ≡ map slot_of_kind l.initial.kinds.items ++ listed l.o (λ v. Output v)

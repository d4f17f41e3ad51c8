use Rattle.std.proofs.Common.{◌≡◌, ◌++◌}
use Rattle.std.specs.Prelude.{map}
use Rattle.list_laws.specs.Lists.{listed}
use Rattle.session_slots.specs.Sessions.Slot.{Kept}
use Rattle.session_slots.specs.SoundSessions.{slot_of_kind}
use Rattle.session_slots.proofs.slot_list.push_kept.Given as goal

-- those of the places so far
abbrev pub invariant-loop-j : goal.invariant-loop-j
invariant-loop-j l = map slot_of_kind l.kinds.items ≡ map slot_of_kind l.initial.kinds.items ++ listed l.j (λ j. Kept j)

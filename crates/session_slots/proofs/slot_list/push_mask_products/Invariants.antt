use Rattle.std.proofs.Common.{◌≡◌, true, [], ◌∷◌, ◌++◌}
use Rattle.std.specs.Prelude.{map}
use Rattle.list_laws.specs.Lists.{joined, only_if}
use Rattle.session_slots.specs.Sessions.{is_prepared}
use Rattle.session_slots.specs.Sessions.Slot.{Mask_product}
use Rattle.session_slots.specs.SoundSessions.{slot_of_kind}
use Rattle.session_slots.specs.Wirings.{prepared_in}
use Rattle.session_slots.proofs.slot_list.push_mask_products.Given as goal

-- those of the gates so far
abbrev pub invariant-loop-t : goal.invariant-loop-t
invariant-loop-t l = map slot_of_kind l.kinds.items ≡ map slot_of_kind l.initial.kinds.items
    ++ joined l.t (λ t. only_if (is_prepared (prepared_in l.wiring true) t) (Mask_product t ∷ []))

use Rattle.std.proofs.Common.{rules, ◌≡◌, ◌+◌, [], ◌∷◌, ◌++◌, reverse, length, length-append, ap, sym, ◌∙◌, arith}
use Rattle.std.specs.Vec.{vec_len}
use Rattle.message_board.specs.Words.{held}
use Rattle.message_board.proofs.SeatLists.{back_more, held_length, held_none}
use Rattle.message_board.proofs.room.give_back.Goals as goal

pub loop-slot-preserved-in-Some-slot : goal.loop-slot-preserved-in-Some-slot
loop-slot-preserved-in-Some-slot g c =
    let h = c.loop-slot.invariant in
    let rest = c.pop.new.self.items in
    let is = c.in-Some.ensures.items ∙ ap (λ o. rest ++ o ∷ []) c.in-Some-slot.is in
    let l : length (held c.loop-slot.slots.items) ≡ length (held rest) + 1 = ap (λ s. length (held s)) is ∙ held_length rest c.in-Some-slot.item in
    let m : length c.push_reserved.new.self.items ≡ length c.loop-slot.items.items + 1 = ap length c.push_reserved.ensures.items ∙ length-append c.loop-slot.items.items (c.in-Some-slot.item ∷ []) in (
      ap (λ xs. held rest ++ reverse xs) c.push_reserved.ensures.items ∙ back_more rest c.loop-slot.items.items c.in-Some-slot.item ∙ ap (λ xs. held xs ++ reverse c.loop-slot.items.items) (sym is) ∙ h.0,
      (let a = h.1 in let b = c.push_reserved.ensures.capacity in omega arith),
    )

pub loop-slot-preserved : goal.loop-slot-preserved
loop-slot-preserved g c =
    let h = c.loop-slot.invariant in
    let rest = c.pop.new.self.items in
    let is = c.in-Some.ensures.items ∙ ap (λ o. rest ++ o ∷ []) c.in-None.is in
    let l : length (held c.loop-slot.slots.items) ≡ length (held rest) = ap (λ s. length (held s)) is ∙ ap length (held_none rest) in (
      ap (λ xs. xs ++ reverse c.loop-slot.items.items) (sym (ap held is ∙ held_none rest)) ∙ h.0,
      (let a = h.1 in omega arith),
    )

pub push_reserved-requires : goal.push_reserved-requires
push_reserved-requires g c =
    let rest = c.pop.new.self.items in
    let is = c.in-Some.ensures.items ∙ ap (λ o. rest ++ o ∷ []) c.in-Some-slot.is in
    let l : length (held c.loop-slot.slots.items) ≡ length (held rest) + 1 = ap (λ s. length (held s)) is ∙ held_length rest c.in-Some-slot.item in
    let n : vec_len c.loop-slot.items ≡ length c.loop-slot.items.items = search rules in
    let room = c.loop-slot.invariant.1 in
    omega arith

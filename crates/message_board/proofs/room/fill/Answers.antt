use Rattle.std.proofs.Common.{◌≡◌, ◌+◌, [], ◌∷◌, ◌++◌, append_assoc, replicate, length, length-append, Some, None, ap, sym, ◌∙◌, arith}
use Rattle.message_board.proofs.SeatLists.{turned_more}
use Rattle.message_board.proofs.room.fill.Goals as goal

pub loop-item-preserved : goal.loop-item-preserved
loop-item-preserved g c =
    let h = c.loop-item.invariant in
    let rest = c.pop.new.self.items in
    let tail = h.0.0 in
    let x = c.in-Some.item in
    let filled = c.push_reserved.ensures.items ∙ ap (λ l. l ++ Some x ∷ []) (c.push_nothing.ensures.items ∙ ap (λ l. l ++ replicate 15 None) h.0.2) in
    let items : length c.loop-item.items.items ≡ length rest + 1 = ap length c.in-Some.ensures.items ∙ length-append rest (x ∷ []) in
    let more : length c.push_reserved.new.self.items ≡ length c.loop-item.slots.items + 15 + 1 =
    ap length c.push_reserved.ensures.items ∙ length-append c.push_nothing.new.slots.items (Some x ∷ [])
    ∙ ap (λ n. n + 1) (ap length c.push_nothing.ensures.items ∙ length-append c.loop-item.slots.items (replicate 15 None)) in (
      (
        x ∷ tail,
        sym (append_assoc rest (x ∷ []) tail) ∙ ap (λ l. l ++ tail) (sym c.in-Some.ensures.items) ∙ h.0.1,
        turned_more x tail c.push_reserved.new.self.items filled,
      ),
      (let a = h.1 in let b = c.push_reserved.ensures.capacity in let d = c.push_nothing.ensures.capacity in omega arith),
      (let a = h.2 in c.in-Some.ensures.capacity ∙ a),
    )

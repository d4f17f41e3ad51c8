use Rattle.std.proofs.Common.{◌≡◌, ◌-◌, ◌++◌, replicate, None, ap, ◌∙◌, arith}
use Rattle.message_board.proofs.room.push_nothing.Goals as goal

pub returns-clause-items : goal.returns-clause-items
returns-clause-items g c =
    let last : c.loop.counter ≡ 16 = omega arith in
    c.loop.invariant.0 ∙ ap (λ n. c.args.slots.now.items ++ replicate (n - 1) None) last

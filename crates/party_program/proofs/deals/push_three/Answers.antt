use Rattle.std.proofs.Common.{◌+◌, refl, arith}
use Rattle.party_program.proofs.PreparedSlots.{same_deals}
use Rattle.party_program.proofs.deals.push_three.Goals as goal

pub returns : goal.returns
returns c k has before =
    let own = c.args.own.now in
    let both = c.push_two.ensures k has.0 before in
    let third = c.push_slot.ensures (k + 2) has.1 both in
    same_deals own (k + 2 + 1) (k + 3) _ _ _ _ (omega arith) refl refl third

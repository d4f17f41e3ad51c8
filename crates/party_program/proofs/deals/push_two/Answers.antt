use Rattle.std.proofs.Common.{◌+◌, refl, arith}
use Rattle.party_program.proofs.PreparedSlots.{same_deals}
use Rattle.party_program.proofs.deals.push_two.Goals as goal

pub returns : goal.returns
returns c k has before =
    let own = c.args.own.now in
    let first = c.push_slot.ensures k has.0 before in
    let second = c.push_slot-2.ensures (k + 1) has.1 first in
    same_deals own (k + 1 + 1) (k + 2) _ _ _ _ (omega arith) refl refl second

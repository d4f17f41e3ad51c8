use Rattle.std.proofs.Common.{◌<◌, arith, ap, subst, length}
use Rattle.party_set.specs.Parties.{Structure}
use Rattle.share_layout.specs.Layouts.{holds, IsLeastParty}
use Rattle.share_layout.proofs.Holders.{entry_holds}
use Rattle.share_layout.proofs.layout.Layout.least_holder.Goals as goal

found : (c : goal.After-row_known-1) → IsLeastParty c.args.self.now (λ p. holds c.args.self.now p c.args.i) c.index.result.now
found c =
    let within : c.args.i < length c.self.inside.groups.items = omega (arith, ap (λ (s : Structure). length s.groups) c.self.view_is) in
    subst (λ (s : Structure). IsLeastParty s (λ p. holds s p c.args.i) c.index.result.now) c.self.view_is
    (entry_holds _ c.self.inside.least_holders.items c.args.i c.index.result.now c.self.invariant within c.index.ensures)

pub returns-clause-party : goal.returns-clause-party
returns-clause-party c = (found c).party

pub returns-clause-holds : goal.returns-clause-holds
returns-clause-holds c = (found c).passes

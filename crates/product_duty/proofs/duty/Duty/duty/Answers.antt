use Rattle.std.proofs.Common.{◌+◌, ◌*◌, ◌<◌, ◌&&◌, ap, ◌∙◌, subst, arith, length, get_or}
use Rattle.party_set.specs.Parties.{Structure}
use Rattle.share_layout.specs.Layouts.{holds, IsLeastParty}
use Rattle.product_duty.proofs.PairDuties.{entry_holds}
use Rattle.product_duty.proofs.duty.Duty.duty.Goals as goal

found : (c : goal.After-row_known-1) → IsLeastParty c.args.self.now (λ p. holds c.args.self.now p c.args.i && holds c.args.self.now p c.args.j) c.index.result.now
found c =
    let first : c.args.i < length c.self.inside.groups.items = omega (arith, ap (λ (s : Structure). length s.groups) c.self.view_is) in
    let second : c.args.j < length c.self.inside.groups.items = omega (arith, ap (λ (s : Structure). length s.groups) c.self.view_is) in
    subst (λ (s : Structure). IsLeastParty s (λ p. holds s p c.args.i && holds s p c.args.j) c.index.result.now) c.self.view_is
    (entry_holds _ c.self.inside.duties.items _ c.args.i c.args.j c.index.result.now c.self.invariant first second
    (c.index.ensures ∙ ap (λ n. get_or c.self.inside.duties.items (c.args.i * n + c.args.j) c.index.result.now) (omega (arith, c.len.ensures, c.self.inside.groups.ok))))

pub returns-clause-party : goal.returns-clause-party
returns-clause-party c = (found c).party

pub returns-clause-holds : goal.returns-clause-holds
returns-clause-holds c = (found c).passes

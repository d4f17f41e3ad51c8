use Rattle.std.proofs.Common.{◌<◌, ◌^◌, arith, ap, sym, subst}
use Rattle.party_set.specs.Parties.{Members}
use Rattle.party_set.proofs.Masks.{has_with_party, with_below}
use Rattle.party_set.proofs.group.Group.with.Goals as goal

pub invariant_of-result : goal.invariant_of-result
invariant_of-result c =
    let party : c.args.p < c.self.inside.parties = omega (arith, ap (λ (m : Members). m.parties) c.self.view_is) in (
      c.self.invariant.0,
      c.self.invariant.1,
      subst (λ m. m < 2 ^ c.self.inside.parties) (sym c.with_party.ensures)
          (with_below c.self.inside.parties c.self.inside.mask c.args.p c.self.invariant.2 party),
    )

pub returns-clause-members : goal.returns-clause-members
returns-clause-members c = λ q. rw (← c.self.view_is, c.with_party.ensures) (has_with_party c.self.inside.mask c.args.p q (omega (arith, c.self.invariant.1, ap (λ (m : Members). m.parties) c.self.view_is)))

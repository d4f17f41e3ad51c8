use Rattle.std.proofs.Common.{◌≡◌, ap, ◌∙◌, sym, subst, ℕ, ◌^◌, ◌<◌}
use Rattle.std.proofs.lemmas.Nat.{or_lt}
use Rattle.party_set.specs.Parties.{Members}
use Rattle.party_set.proofs.Masks.{has_union}
use Rattle.party_set.proofs.group.Group.union.Goals as goal

pub invariant_of-result : goal.invariant_of-result
invariant_of-result c =
    let same : c.g.inside.parties ≡ c.self.inside.parties = ap (λ (m : Members). m.parties) c.g.view_is ∙ c.requires ∙ sym (ap (λ (m : Members). m.parties) c.self.view_is) in (
      c.self.invariant.0,
      c.self.invariant.1,
      or_lt c.self.inside.parties c.self.inside.mask c.g.inside.mask c.self.invariant.2
          (subst (λ (n : ℕ). c.g.inside.mask < 2 ^ n) same c.g.invariant.2),
    )

pub returns-clause-members : goal.returns-clause-members
returns-clause-members c = rw (← c.self.view_is, ← c.g.view_is) (record { members = has_union c.self.inside.mask c.g.inside.mask })

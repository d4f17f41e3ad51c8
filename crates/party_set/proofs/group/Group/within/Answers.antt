use Rattle.std.proofs.Common.{◌≡◌, ap, ◌∙◌, sym, subst, ℕ, ◌^◌, ◌<◌}
use Rattle.party_set.specs.Parties.{Members}
use Rattle.party_set.proofs.Masks.{within_word}
use Rattle.party_set.proofs.group.Group.within.Goals as goal

pub returns : goal.returns
returns c =
    let same : c.g.inside.parties ≡ c.self.inside.parties = ap (λ (m : Members). m.parties) c.g.view_is ∙ c.requires ∙ sym (ap (λ (m : Members). m.parties) c.self.view_is) in
    rw (← c.self.view_is, ← c.g.view_is) (within_word c.self.inside.parties c.self.inside.mask c.g.inside.mask c.self.invariant.2
    (subst (λ (n : ℕ). c.g.inside.mask < 2 ^ n) same c.g.invariant.2))

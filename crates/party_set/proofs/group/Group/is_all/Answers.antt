use Rattle.party_set.proofs.Masks.{all_word}
use Rattle.party_set.proofs.group.Group.is_all.Goals as goal

pub returns : goal.returns
returns c = rw (← c.self.view_is) (all_word c.self.inside.parties c.self.inside.mask c.self.invariant.1 c.self.invariant.2)

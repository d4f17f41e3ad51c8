use Rattle.outer_io.proofs.HostTexts.{same_texts}
use Rattle.outer_io.proofs.net.Hosts.same.Goals as goal

pub returns : goal.returns
returns c = rw (← c.self.view_is, ← c.other.view_is, c.eq.ensures) (same_texts c.self.inside.texts.items c.other.inside.texts.items)

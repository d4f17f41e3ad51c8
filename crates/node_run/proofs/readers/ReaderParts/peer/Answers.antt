use Rattle.std.proofs.Common.{◌∙◌, ap}
use Rattle.node_run.specs.Remains.{ReaderPartsModel}
use Rattle.node_run.proofs.readers.ReaderParts.peer.Goals as goal

pub returns : goal.returns
returns c = c.peer.ensures ∙ ap (λ (p : ReaderPartsModel). p.talk.peer) c.self.view_is

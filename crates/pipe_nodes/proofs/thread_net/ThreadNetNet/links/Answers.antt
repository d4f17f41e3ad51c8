use Rattle.socket_link.proofs.UnusedLinks.{connects}
use Rattle.pipe_nodes.proofs.thread_net.ThreadNetNet.links.Goals as goal

pub returns-in-Ok : goal.returns-in-Ok
returns-in-Ok c = connects _ _ _ _ _ c.in-Ok.ensures

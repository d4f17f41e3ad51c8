use Rattle.socket_link.proofs.UnusedLinks.{connects}
use Rattle.socket_link.proofs.tcp_net.TcpNetNet.links.Goals as goal

pub returns-in-Ok : goal.returns-in-Ok
returns-in-Ok g c = connects _ _ _ _ _ c.in-Ok.ensures

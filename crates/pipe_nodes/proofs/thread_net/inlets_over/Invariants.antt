use Rattle.std.proofs.Common.{◌≡◌, length, map, replicate}
use Rattle.socket_link.specs.Sockets.{unread}
use Rattle.pipe_nodes.specs.ThreadLinks.{inlet_reading}
use Rattle.pipe_nodes.proofs.thread_net.inlets_over.Given as goal

-- one for each end so far, over which nothing went
abbrev pub invariant-loop-end : goal.invariant-loop-end
invariant-loop-end l = map inlet_reading l.inlets.items ≡ replicate (length l.yielded) unread

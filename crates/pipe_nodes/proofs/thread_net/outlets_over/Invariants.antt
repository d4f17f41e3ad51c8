use Rattle.std.proofs.Common.{◌≡◌, length, map, replicate}
use Rattle.socket_link.specs.Sockets.{unsent}
use Rattle.pipe_nodes.specs.ThreadLinks.{outlet_reading}
use Rattle.pipe_nodes.proofs.thread_net.outlets_over.Given as goal

-- one for each end so far, over which nothing went
abbrev pub invariant-loop-end : goal.invariant-loop-end
invariant-loop-end l = map outlet_reading l.outlets.items ≡ replicate (length l.yielded) unsent

use Rattle.std.proofs.Common.{◌≡◌, length, map, replicate}
use Rattle.socket_link.specs.Sockets.{inlet_reading, unread}
use Rattle.socket_link.proofs.tcp_net.inlets_over.Given as goal

-- one for each connection so far, over which nothing went
abbrev pub invariant-loop-stream : goal.invariant-loop-stream
invariant-loop-stream l = map inlet_reading l.inlets.items ≡ replicate (length l.yielded) unread

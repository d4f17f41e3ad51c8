use Rattle.std.proofs.Common.{◌≡◌, length, map, replicate}
use Rattle.socket_link.specs.Sockets.{outlet_reading, unsent}
use Rattle.socket_link.proofs.tcp_net.outlets_over.Given as goal

-- one for each connection so far, over which nothing went
abbrev pub invariant-loop-stream : goal.invariant-loop-stream
invariant-loop-stream l = map outlet_reading l.outlets.items ≡ replicate (length l.yielded) unsent

use Rattle.node_run.specs.Ready.{ArePeersReady}
use Rattle.node_run.proofs.ready.ready_peers.Given as goal

-- the first peers are ready
abbrev pub invariant-loop-place : goal.invariant-loop-place
invariant-loop-place l = ArePeersReady l.plan l.me l.parker l.digest l.form l.place l.boxes.items l.readers.items

use Rattle.std.proofs.Common.{◌≡◌, map}
use Rattle.outer_io.specs.Inlet.{shut_inlet}
use Rattle.node_run.proofs.ClosedLinks.{shut_first}
use Rattle.node_run.proofs.readers.close_inlets.Given as goal

-- so many are closed, and the others are as they were
abbrev pub invariant-loop-inlet : goal.invariant-loop-inlet
invariant-loop-inlet g l = map g.I.Inlet.reading l.inlets ≡ shut_first shut_inlet l.inlet-index (map g.I.Inlet.reading l.initial.inlets)

use Rattle.std.proofs.Common.{◌≡◌, map}
use Rattle.outer_io.specs.Outlet.{shut_outlet}
use Rattle.node_run.proofs.ClosedLinks.{shut_first}
use Rattle.node_run.proofs.readers.close_outlets.Given as goal

-- so many are closed, and the others are as they were
abbrev pub invariant-loop-outlet : goal.invariant-loop-outlet
invariant-loop-outlet g l = map g.O.Outlet.reading l.outlets ≡ shut_first shut_outlet l.outlet-index (map g.O.Outlet.reading l.initial.outlets)

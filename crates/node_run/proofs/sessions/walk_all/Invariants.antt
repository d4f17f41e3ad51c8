use Rattle.std.proofs.Common.{◌≡◌}
use Rattle.node_talk.specs.Talks.{Node}
use Rattle.node_run.specs.Progress.{Begin, InOrder}
use Rattle.node_run.proofs.sessions.walk_all.Given as goal

abbrev pub invariant-loop-s : goal.invariant-loop-s
invariant-loop-s g l = (n : Node) (start : Begin) → n.world.plan ≡ l.plan → InOrder n 0 start l.initial.desks l.initial.cells → InOrder n l.s start l.desks l.cells

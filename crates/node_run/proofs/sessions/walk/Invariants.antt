use Rattle.std.proofs.Common.{◌≡◌, ℕ}
use Rattle.node_talk.specs.Talks.{Node}
use Rattle.node_run.specs.Progress.{Begin, InSession, KeepsWords}
use Rattle.node_run.proofs.sessions.walk.Given as goal

abbrev pub invariant-loop : goal.invariant-loop
invariant-loop g l =
    record {
      state : (n : Node) (s : ℕ) (start : Begin) → n.world.plan ≡ l.plan → InSession n s start l.initial.desk l.initial.cells → InSession n s start l.desk l.cells;
      keeps : KeepsWords l.initial.cells l.cells;
    }

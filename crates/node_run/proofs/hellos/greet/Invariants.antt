use Rattle.std.proofs.Common.{◌≡◌}
use Rattle.node_talk.specs.Talks.{Node}
use Rattle.node_run.specs.Progress.{Begin, Greeted}
use Rattle.node_run.proofs.hellos.greet.Given as goal

abbrev pub invariant-loop-q : goal.invariant-loop-q
invariant-loop-q g l = (n : Node) (start : Begin) → n.digest ≡ l.digest → Greeted n 0 start l.initial.cells → Greeted n l.q start l.cells

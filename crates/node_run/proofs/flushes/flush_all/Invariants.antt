use Rattle.node_run.specs.Mail.{IsMail}
use Rattle.node_run.specs.Progress.{FlushedBelow}
use Rattle.node_run.proofs.flushes.flush_all.Given as goal

abbrev pub invariant-loop-q : goal.invariant-loop-q
invariant-loop-q g l = record {
  flushed : FlushedBelow l.q l.initial.cells l.cells;
  mail : IsMail l.cells;
}

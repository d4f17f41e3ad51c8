use Rattle.std.proofs.Common.{◌≡◌, length}
use Rattle.job_run.specs.Parties.{AllFit}
use Rattle.worked_calls.proofs.calling.all_parties.Given as goal

abbrev pub invariant-loop-p : goal.invariant-loop-p
invariant-loop-p l = record {
  count : length l.parties.items ≡ l.p;
  fit : AllFit l.plan l.parties.items;
}

use Rattle.std.proofs.Common.{◌≡◌, length}
use Rattle.job_run.specs.Parties.{AllFit}
use Rattle.worked_parts.proofs.party_data.all_data.Given as goal

abbrev pub invariant-loop-p : goal.invariant-loop-p
invariant-loop-p l = record {
  count : length l.all_data.items ≡ l.p;
  fit : AllFit l.plan l.all_data.items;
}

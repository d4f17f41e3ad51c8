use Rattle.std.proofs.Common.{◌≡◌}
use Rattle.list_laws.specs.Lists.{listed}
use Rattle.session_slots.specs.Sessions.{first_output}
use Rattle.job_session.proofs.keeping.first_outputs.Given as goal

-- those of the values so far, and where the next one begins
abbrev pub invariant-loop-value : goal.invariant-loop-value
invariant-loop-value l = record {
  firsts : l.firsts.items ≡ listed l.value-index (first_output l.part);
  first : l.first ≡ first_output l.part l.value-index;
}

use Rattle.std.proofs.Common.{◌≡◌}
use Rattle.list_laws.specs.Lists.{listed}
use Rattle.plan_model.specs.Plans.{words}
use Rattle.party_file.proofs.tapes.word_counts.Given as goal

abbrev pub invariant-loop-session : goal.invariant-loop-session
invariant-loop-session l = l.counts.items ≡ listed l.session (words l.plan l.party)

use Rattle.std.proofs.Common.{◌≡◌}
use Rattle.list_laws.specs.Lists.{listed}
use Rattle.sample_maker.specs.Samples.{sample_piece}
use Rattle.sample_maker.proofs.tapes.sample_tapes.Given as goal

abbrev pub invariant-loop-party : goal.invariant-loop-party
invariant-loop-party l = l.tapes.items ≡ listed l.party (sample_piece l.plan)

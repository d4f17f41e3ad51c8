use Rattle.std.proofs.Common.{◌∙◌}
use Rattle.party_file.proofs.SessionInputs.{few_counts}
use Rattle.party_file.proofs.tapes.read_tape.Goals as goal

pub split_sessions-requires : goal.split_sessions-requires
split_sessions-requires c = few_counts c.args.plan.now c.args.party _ (c.deref.ensures.value ∙ c.in_ok-counts.ensures) c.ring.ensures.sound.few_sessions

use Rattle.std.proofs.Common.{◌≡◌}
use Rattle.list_laws.specs.Lists.{listed}
use Rattle.tape_words.specs.Seeds.{seed_word}
use Rattle.plan_model.specs.Plans.{words}
use Rattle.party_file.proofs.tapes.seed_tapes.Given as goal

abbrev pub invariant-loop-session : goal.invariant-loop-session
invariant-loop-session l = l.tapes.items ≡ listed l.session (λ s. listed (words l.plan l.party s) (seed_word l.plan.bits l.seed s))

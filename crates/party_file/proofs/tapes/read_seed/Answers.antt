use Rattle.std.proofs.Common.{inr, ap, ◌∙◌, length, ℕ, List}
use Rattle.list_laws.specs.Lists.{listed}
use Rattle.tape_words.specs.Seeds.{seed_word}
use Rattle.plan_model.specs.Plans.{words}
use Rattle.party_file.proofs.WordChecks.{seed-ok, seed-err}
use Rattle.party_file.proofs.tapes.read_seed.Goals as goal

pub returns-in_ok-seed_tapes-in-Ok-clause-passed : goal.returns-in_ok-seed_tapes-in-Ok-clause-passed
returns-in_ok-seed_tapes-in-Ok-clause-passed c =
    let read = seed-ok c.args.text.now c.in-Ok.seed c.in-Ok.ensures in (
      read.0,
      c.in_ok-seed_tapes-in-Ok.ensures
          ∙ ap (λ (seed : List ℕ). listed (length c.args.plan.now.sessions) (λ s. listed (words c.args.plan.now c.args.party s) (seed_word c.args.plan.now.bits seed s))) read.1,
    )

pub returns-in-Err-clause-fault : goal.returns-in-Err-clause-fault
returns-in-Err-clause-fault c = inr (seed-err c.args.text.now _ c.in-Err.ensures)

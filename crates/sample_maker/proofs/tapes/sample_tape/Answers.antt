use Rattle.std.proofs.Common.{◌≡◌, List, ℕ, ap₂, subst}
use Rattle.std.specs.Prelude.{IfOk}
use Rattle.list_laws.specs.Lists.{listed}
use Rattle.tape_words.specs.Seeds.{seed_word}
use Rattle.sample_maker.specs.Samples.{sample_seed}
use Rattle.sample_maker.proofs.tapes.sample_tape.Goals as goal

pub returns : goal.returns
returns c =
    subst (λ (words : List ℕ). IfOk c.from_seed.result (λ tape. tape ≡ words))
    (ap₂ (λ a b. listed a (seed_word b (sample_seed c.args.party) 0)) c.words.ensures c.ring-ring.ensures.is)
    c.from_seed.ensures.words

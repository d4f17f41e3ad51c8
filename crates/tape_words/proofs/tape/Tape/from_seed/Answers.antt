use Rattle.std.proofs.Common.{rules, ℕ, ◌^◌, ◌<◌, All, List, subst, sym}
use Rattle.rand_chacha.specs.ChaCha.{key_of}
use Rattle.tape_words.proofs.SeedLists.{stream_words-inside}
use Rattle.tape_words.proofs.tape.Tape.from_seed.Goals as goal

pub returns-clause-words : goal.returns-clause-words
returns-clause-words c = search rules

pub returns-clause-inside : goal.returns-clause-inside
returns-clause-inside c =
    subst (λ (words : List ℕ). All (λ word. word < 2 ^ c.args.ring) words) (sym (returns-clause-words c))
    (stream_words-inside c.args.count c.args.ring (key_of c.args.seed.now) c.args.session)

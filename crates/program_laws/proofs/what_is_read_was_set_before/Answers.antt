use Rattle.std.proofs.Common.{suc, ◌+◌, ◌≡◌, subst, arith}
use Rattle.program_laws.specs.WordsRead.{IsToRead}
use Rattle.program_laws.proofs.SetWords.{reads_are_set, own_row}
use Rattle.program_laws.proofs.what_is_read_was_set_before.Goals as goal

pub returns-clause-set : goal.returns-clause-set
returns-clause-set c plan s p sound ls lp q v i li reads = reads_are_set plan sound s p ls lp (sound.sessions s ls).wired.order q v i li reads

pub returns-clause-apart : goal.returns-clause-apart
returns-clause-apart c plan s p rows sound ls lp table q v w i j now was later ne =
    let next : q + 1 ≡ suc q = omega arith in
    own_row plan sound s p ls lp (sound.sessions s ls).wired.order rows table q v w i j now was (subst (λ z. IsToRead plan p s z v i) next later) ne

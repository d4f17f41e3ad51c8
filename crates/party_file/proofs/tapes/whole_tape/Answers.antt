use Rattle.std.proofs.Common.{None, subst, ◌^◌}
use Rattle.tape_words.specs.Cuts.{IsFirstOutside}
use Rattle.party_file.proofs.WordChecks.{out_of_ring-none, out_of_ring-at}
use Rattle.party_file.proofs.tapes.whole_tape.Goals as goal

pub returns-in-Ok-clause-passed : goal.returns-in-Ok-clause-passed
returns-in-Ok-clause-passed c = (out_of_ring-none c.args.ring None c.args.words.items c.in-Ok.ensures.inside, c.in-Ok.ensures.kept)

pub returns-in-Err-clause-fault : goal.returns-in-Err-clause-fault
returns-in-Err-clause-fault c =
    let first = subst (IsFirstOutside (2 ^ c.args.ring) c.args.words.items) c.place.ensures c.in-Err.ensures.first in
    out_of_ring-at c.args.ring None c.args.words.items c.place.result first.0 first.1 first.2

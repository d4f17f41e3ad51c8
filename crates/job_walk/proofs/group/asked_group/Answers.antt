use Rattle.std.proofs.Common.{ℕ, List, Option, None, Ok, refl, sym, subst}
use Rattle.std.specs.Borrow.{Bor}
use Rattle.party_set.specs.Parties.{Members}
use Rattle.job_walk.specs.JobOf.{GroupOf}
use Rattle.job_walk.specs.Reads.{WalksAs}
use Rattle.job_walk.specs.Seen.{text_view}
use Rattle.job_walk.proofs.group.asked_group.Goals as goal

pub returns-in-Some-clause-walks : goal.returns-in-Some-clause-walks
returns-in-Some-clause-walks c =
    subst (λ (asked : Option (Bor (List ℕ))). WalksAs (λ (group : Option Members). group) (GroupOf c.args.names.now (text_view asked)) c.some_group.result) (sym c.in-Some.is) c.some_group.ensures.walks

none_asked : (names : List (List ℕ)) → WalksAs (λ (group : Option Members). group) (GroupOf names None) (Ok None)
unfolding GroupOf
none_asked names = record { ok = refl; stop = tt }

pub returns-in-None-clause-walks : goal.returns-in-None-clause-walks
returns-in-None-clause-walks c =
    subst (λ (asked : Option (Bor (List ℕ))). WalksAs (λ (group : Option Members). group) (GroupOf c.args.names.now (text_view asked)) (Ok None)) (sym c.in-None.is) (none_asked c.args.names.now)

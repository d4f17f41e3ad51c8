use Rattle.std.proofs.Common.{List, map, sym, subst}
use Rattle.party_set.specs.Parties.{Members, Structure}
use Rattle.job_file.specs.declared.job.Adversary.{Adversary}
use Rattle.job_file.specs.Forms.{by_list}
use Rattle.job_file.specs.Jobs.{adversary_view}
use Rattle.job_walk.specs.JobOf.{GroupsOf}
use Rattle.job_walk.specs.Reads.{WalksAs}
use Rattle.job_walk.proofs.structure.maximal_groups.Goals as goal

pub returns-in-Tolerated-clause-walks : goal.returns-in-Tolerated-clause-walks
returns-in-Tolerated-clause-walks c =
    let listed : WalksAs (λ (groups : Structure). groups) (GroupsOf c.args.names.now (by_list (map (λ (group : Members). group.mask) c.in-Tolerated.groups.items))) c.groups_of_list.result =
    subst (λ (gs : List Members). WalksAs (λ (groups : Structure). groups) (GroupsOf c.args.names.now (by_list (map (λ (group : Members). group.mask) gs))) c.groups_of_list.result) c.deref.ensures.value
    c.groups_of_list.ensures.walks in
    subst (λ (a : Adversary). WalksAs (λ (groups : Structure). groups) (GroupsOf c.args.names.now (adversary_view a)) c.groups_of_list.result) (sym c.in-Tolerated.is) listed
